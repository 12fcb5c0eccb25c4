-- What the letters of a signed world send.
use Rattle.std.proofs.Common.{◌≡◌, ℕ, zero, suc, ◌<◌, ◌≤◌, Bool, true, false, cond, List, [], ◌∷◌, take, map, length, get_or, refl, sym, ap, subst, ◌∙◌, arith, All, inl, inr, Option, None, Some}
use Rattle.std.specs.Prelude.{◌==◌, is_some}
use Rattle.std.proofs.lemmas.Bool.{cases_Bool, cases_lt, eqb-true}
use Rattle.std.proofs.lemmas.List.{take_all}
use Rattle.insn.specs.declared.insn.Insn.{Insn}
use Rattle.label.specs.Labels.{generals}
use Rattle.semantics.specs.Relay.{Relay, IsContext, IsRelay}
use Rattle.semantics.proofs.SafetyLaws.{safe_of_sound}
use Rattle.round.specs.Scenario.{Scenario, IsScenario, is_traitor}
use Rattle.round.specs.Letters.{Letter, letter_of}
use Rattle.round.specs.Activation.{started}
use Rattle.round.specs.Runs.{IsRunOf}
use Rattle.mem.proofs.Bytes.{bytes_context}
use Rattle.round.proofs.Contexts.{shape_is}
use Rattle.round.proofs.Lists.{some_at}
use Rattle.world.specs.declared.event.Event.{Event}
use Rattle.world.specs.Kind.{loyal_letter}
use Rattle.world.specs.Safety.{IsMade, IsLetterIn}
use Rattle.world.specs.Campaigns.{AreCampaigns}
use Rattle.world.proofs.Arranged.{snoc}
use Rattle.world.proofs.Kept.{Tells}
use Rattle.world.proofs.Standing.{standing}
use Rattle.signed.specs.Entries.{Dispatch, dispatched}
use Rattle.signed.specs.Loyal.{loyal_entries}
use Rattle.signed.specs.Sent.{Sent, sent_by, delivered, sends, round_sent, sent_in}
use Rattle.signed.specs.Sending.{IsWritten, AreWritten}
use Rattle.signed.specs.Kind.{signed_kind, played}
use Rattle.signed.specs.Traitors.{IsAnyLetter, AreAnyLetters}
use Rattle.signed.proofs.Along.{held_is, sent_none, sent_more, sent_length}
use Rattle.signed.proofs.Passing.{proved_loyal_entries_are_sent}
use Rattle.signed.proofs.Making.{IsMadeOf, of_loyal, made_more, full_more}
use Rattle.signed.proofs.Making as making
use Rattle.signed.proofs.Places.{row_at, row_past, get_or_at}
use Rattle.signed.proofs.Sending.{runs_kept, start_kept}

pub signed_campaigns : AreCampaigns signed_kind
signed_campaigns s is = record {
  scenario = is;
  context = λ closed g lt le. bytes_context _;
  relay = λ closed g lt le. shape_is s g (length closed) is lt le;
}

-- A traitor's letter has few entries.
entries_few : (s : Scenario) (before : List (List Letter)) (l : Letter) (p : List Insn) → IsScenario s → IsLetterIn signed_kind s before l → l.program ≡ Some p → IsRunOf l (Some p) → length l.outbox.entries ≤ 8
entries_few s before l p is h e made =
    let good = signed_campaigns s is in
    let context : IsContext l.context = (let A : List ℕ → Type 0 = λ c. IsContext c in subst A (sym h.context) (good.context before l.general h.general h.rounds)) in
    let relay : IsRelay l.outbox.relay = (let A : Relay → Type 0 = λ r. IsRelay r in subst A (sym h.relay) (good.relay before l.general h.general h.rounds)) in
    let sound = is.sound l.general p (sym h.program ∙ e) in
    let end = made.1 in
    let k = runs_kept (length p) l.steps (started None p l.context l.outbox.relay) l.transcript end made.0
    (λ on. safe_of_sound p l.context l.outbox.relay sound context relay) (start_kept None p l.context l.outbox.relay) made.2 in
    let same = ap length made.5 in
    let few = k.sendable.few in
    omega arith

-- Each letter of a world is possible.
letter_any : (s : Scenario) (before : List (List Letter)) (l : Letter) → IsScenario s → IsLetterIn signed_kind s before l → IsAnyLetter s before l.general l
letter_any s before l is h = by l.program refl h.made
  where
    by : (o : Option (List Insn)) → l.program ≡ o → IsMade signed_kind s before l o → IsAnyLetter s before l.general l
    by None e made = record {
      loyal = λ good. made;
      few = λ bad. absurd (let f : false ≡ true = sym (ap is_some (sym h.program ∙ e)) ∙ bad in cc);
    }
    by (Some p) e made = record {
      loyal = λ good. absurd (let f : true ≡ false = sym (ap is_some (sym h.program ∙ e)) ∙ good in cc);
      few = λ bad. entries_few s before l p is h e made;
    }

-- What a letter sends depends on whose it is.
letter_made : (s : Scenario) (before : List (List Letter)) (g : ℕ) (l : Letter) → g < s.generals → IsWritten s before g l
    → IsMadeOf s (delivered (sent_in s before)) (suc (length (sent_in s before))) g (sends s (sent_in s before) g (Some l))
letter_made s before g l lt h = elim h [
  | inl own ↦
      let sent = sent_in s before in
      let entries : l.outbox.entries ≡ loyal_entries s.generals s.commander s.bound s.order (delivered sent) (suc (length sent)) g =
      ap (λ (m : Letter). m.outbox.entries) own
      ∙ ap (λ (n : ℕ). loyal_entries s.generals s.commander s.bound s.order (delivered sent) (suc n) g) (sym (sent_length s before)) in
      inr (inr (record {
        general = lt;
        sends = (λ i. dispatched s.generals s.commander g (held_is s.generals sent g i) (entries i))
            ∙ proved_loyal_entries_are_sent s.generals s.commander s.bound s.order (delivered sent) (suc (length sent)) g;
      }))
  | inr few ↦ inr (inl (record {
    general = lt;
    entries = l.outbox.entries;
    few = few;
    sends = ap (λ held. dispatched s.generals s.commander g held l.outbox.entries) (held_is s.generals (sent_in s before) g);
  }))
]

-- The letter that is found is one of the list, and his.
found : (P : Letter → Type 0) (row : List Letter) (g : ℕ) (l : Letter) → letter_of row g ≡ Some l → All P row → P l × (l.general ≡ g)
found P [] g l e all = absurd (let f : None ≡ Some l = e in cc)
found P (x ∷ row) g l e all = by (x.general == g) refl e (λ f. found P row g l f (λ k d lt. all (suc k) d (omega arith)))
  where
    by : (b : Bool) → (x.general == g) ≡ b → cond b (Some x) (letter_of row g) ≡ Some l → (letter_of row g ≡ Some l → P l × (l.general ≡ g)) → P l × (l.general ≡ g)
    by true same is next =
        let here : x ≡ l = (let f : Some x ≡ Some l = is in cc) in
        (subst P here (all 0 x (omega arith)), ap (λ (m : Letter). m.general) (sym here) ∙ eqb-true x.general g same)
    by false other is next = next is

-- What the letters of a round send.
row_made : (s : Scenario) (before : List (List Letter)) (row : List Letter) → ((g : ℕ) (l : Letter) → g < s.generals → letter_of row g ≡ Some l → IsWritten s before g l) → (g : ℕ)
    → IsMadeOf s (delivered (sent_in s before)) (suc (length (sent_in s before))) g (get_or (round_sent s (sent_in s before) row) g [])
row_made s before row all g =
    let sent = sent_in s before in
    let f : ℕ → List Dispatch = λ h. sends s sent h (letter_of row h) in
    let M : List Dispatch → Type 0 = λ xs. IsMadeOf s (delivered sent) (suc (length sent)) g xs in
    elim (cases_lt g s.generals) [
      | inl lt ↦ subst M (sym (get_or_at (map f (generals s.generals)) g (f g) [] (row_at f s.generals g lt))) (by (letter_of row g) refl lt)
      | inr past ↦ inl (row_past f s.generals g [] past)
    ]
  where
    by : (o : Option Letter) → letter_of row g ≡ o → g < s.generals → IsMadeOf s (delivered (sent_in s before)) (suc (length (sent_in s before))) g (sends s (sent_in s before) g o)
    by None e lt = inl refl
    by (Some l) e lt = letter_made s before g l lt (all g l lt e)

made_to : (s : Scenario) (closed : List (List Letter)) → AreWritten s closed → (k : ℕ) → k ≤ length closed → making.IsMade s (sent_in s (take k closed))
made_to s closed all zero le =
    let A : Sent → Type 0 = λ sent. making.IsMade s sent in
    subst A (sym (sent_none s)) (λ r g. inl (nothing r g))
  where
    nothing : (r g : ℕ) → sent_by [] r g ≡ []
    nothing zero g = refl
    nothing (suc r) g = refl
made_to s closed all (suc k) le =
    let at = some_at closed k (omega arith) in
    let A : Sent → Type 0 = λ sent. making.IsMade s sent in
    let B : List (List Letter) → Type 0 = λ rows. making.IsMade s (sent_in s rows) in
    subst B (sym (snoc closed k at.0 at.1))
    (subst A (sym (sent_more s (take k closed) at.0))
    (made_more s (sent_in s (take k closed)) (round_sent s (sent_in s (take k closed)) at.0) (made_to s closed all k (omega arith))
    (row_made s (take k closed) at.0 (λ g l lt e. all k g at.0 l at.1 lt e))))

-- So the chains sent in them are made as signed orders are.
pub written_made : (s : Scenario) (closed : List (List Letter)) → AreWritten s closed → making.IsMade s (sent_in s closed)
written_made s closed all =
    let A : List (List Letter) → Type 0 = λ rows. making.IsMade s (sent_in s rows) in
    subst A (take_all (length closed) closed (omega arith)) (made_to s closed all (length closed) (omega arith))

-- Letters that events can make are written in this way.
pub any_written : (s : Scenario) (closed : List (List Letter)) → AreAnyLetters s closed → AreWritten s closed
any_written s closed all k g row l at lt of =
    let h = all k g row l at lt of in
    elim (cases_Bool (is_traitor s g)) [ inl bad ↦ inr (h.few bad) | inr good ↦ inl (h.loyal good) ]

-- So the chains that they send are made as signed orders are.
pub made_in : (s : Scenario) (closed : List (List Letter)) → AreAnyLetters s closed → making.IsMade s (sent_in s closed)
made_in s closed all = written_made s closed (any_written s closed all)

-- If every loyal general's letters are there, each sends what SM(m) requires.
row_full : (s : Scenario) (before : List (List Letter)) (row : List Letter) (g : ℕ) → g < s.generals → letter_of row g ≡ Some (loyal_letter signed_kind s before g)
    → get_or (round_sent s (sent_in s before) row) g [] ≡ of_loyal s (delivered (sent_in s before)) (suc (length (sent_in s before))) g
row_full s before row g lt e =
    let sent = sent_in s before in
    let f : ℕ → List Dispatch = λ h. sends s sent h (letter_of row h) in
    get_or_at (map f (generals s.generals)) g (f g) [] (row_at f s.generals g lt)
    ∙ (ap (sends s sent g) e
    ∙ ((λ i. dispatched s.generals s.commander g (held_is s.generals sent g i) (loyal_entries s.generals s.commander s.bound s.order (delivered sent) (suc (sym (sent_length s before) i)) g))
    ∙ proved_loyal_entries_are_sent s.generals s.commander s.bound s.order (delivered sent) (suc (length sent)) g))

full_to : (s : Scenario) (closed : List (List Letter)) → ((g : ℕ) → g < s.generals → is_traitor s g ≡ false → Tells signed_kind s closed g) → (k : ℕ) → k ≤ length closed → making.IsFull s (sent_in s (take k closed))
full_to s closed told zero le =
    let A : Sent → Type 0 = λ sent. making.IsFull s sent in
    subst A (sym (sent_none s)) (λ r g lt gn loyal. absurd (omega arith))
full_to s closed told (suc k) le =
    let at = some_at closed k (omega arith) in
    let A : Sent → Type 0 = λ sent. making.IsFull s sent in
    let B : List (List Letter) → Type 0 = λ rows. making.IsFull s (sent_in s rows) in
    subst B (sym (snoc closed k at.0 at.1))
    (subst A (sym (sent_more s (take k closed) at.0))
    (full_more s (sent_in s (take k closed)) (round_sent s (sent_in s (take k closed)) at.0) (full_to s closed told k (omega arith))
    (λ g gn loyal. row_full s (take k closed) at.0 g gn
    (ap (λ (row : List Letter). letter_of row g) (sym (get_or_at closed k at.0 [] at.1)) ∙ told g gn loyal k (omega arith)))))

pub full_in : (s : Scenario) (closed : List (List Letter)) → ((g : ℕ) → g < s.generals → is_traitor s g ≡ false → Tells signed_kind s closed g) → making.IsFull s (sent_in s closed)
full_in s closed told =
    let A : List (List Letter) → Type 0 = λ rows. making.IsFull s (sent_in s rows) in
    subst A (take_all (length closed) closed (omega arith)) (full_to s closed told (length closed) (omega arith))

-- The letters of every world are possible.
pub played_any : (s : Scenario) (events : List Event) → IsScenario s → AreAnyLetters s (played s events).closed
played_any s events is k g row l at lt e =
    let closed = (played s events).closed in
    let h = found (λ m. IsLetterIn signed_kind s (take k closed) m) row g l e ((standing signed_kind s events (signed_campaigns s is)).rows k row at) in
    let A : ℕ → Type 0 = λ j. IsAnyLetter s (take k closed) j l in
    subst A h.1 (letter_any s (take k closed) l is h.0)

pub played_made : (s : Scenario) (events : List Event) → IsScenario s → making.IsMade s (sent_in s (played s events).closed)
played_made s events is = made_in s (played s events).closed (played_any s events is)
