-- Only traitors make the accesses of a round, and the round's letters account for them.
use Rattle.std.proofs.Common.{◌≡◌, ◌≢◌, ℕ, zero, suc, ◌+◌, ◌<◌, ◌≤◌, List, [], ◌∷◌, ◌++◌, length, drop, Bool, true, false, cond, refl, sym, ap, subst, ◌∙◌, ⊎_elim, Option, Some, None, append_assoc, append-nil, arith, length-append, All}
use Rattle.std.specs.Prelude.{slice_get, ◌==◌, sum_by, is_some, ◌||◌}
use Rattle.std.proofs.lemmas.Bool.{ne_eqb, true≢false}
use Rattle.std.proofs.lemmas.Bool.Decides.{eqb_tells}
use Rattle.std.proofs.lemmas.List.Sums.{sum_by-append}
use Rattle.std.proofs.lemmas.Option.{slice_get_within}
use Rattle.insn.specs.declared.insn.Insn.{Insn}
use Rattle.label.proofs.Ranks.{get_left, get_right}
use Rattle.board.specs.Board.{Access, reply}
use Rattle.world.specs.declared.event.Event.{Event}
use Rattle.world.specs.declared.event.Event.TheVariants.{Tick, Post, Close}
use Rattle.round.specs.Scenario.{Scenario, program_of, is_traitor}
use Rattle.round.specs.Letters.{Letter}
use Rattle.round.specs.Activation.{Activation, Turn, Goes, Asks, Ended, turn, started, is_reached}
use Rattle.world.specs.Part.{Progress, Acting, Silent, Posted}
use Rattle.world.specs.Kind.{Kind, loyal_letter, World, each, round_open, begins, begun, accesses_of, letters_at, round_letters, served, ticked, posting, happen}
use Rattle.round.specs.Runs.{Runs}
use Rattle.world.specs.KindAccounted.{IsLetterOf, IsAccountedRound}
use Rattle.world.specs.KindLists.{IsMove, IsRipe}
use Rattle.world.proofs.Kept.{Fits, IsKept}
use Rattle.world.proofs.Listing.{each-get_only}
use Rattle.world.proofs.Due.{IsDue}
use Rattle.world.proofs.Complete.{part_within}
use Rattle.world.proofs.Lasting.{IsOnTime}
use Rattle.round.proofs.Stepping.{runs_steps}
use Rattle.round.proofs.Patience.{under, runs_under, Kept, runs_kept, within_none}
use Rattle.world.proofs.Ways.{access, Came}
use Rattle.world.proofs.Cutting.{AreBelow}

-- States that each entry is a traitor's and of this round.
abbrev pub AreMade : Scenario → ℕ → List Access → Type 0
AreMade s r [] = Unit {0}
AreMade s r (x ∷ piece) = ((x.general < s.generals) × (x.round ≡ r) × (is_traitor s x.general ≡ true)) × AreMade s r piece

made_snoc : (s : Scenario) (r : ℕ) (piece : List Access) (x : Access) → AreMade s r piece → x.general < s.generals → x.round ≡ r → is_traitor s x.general ≡ true → AreMade s r (piece ++ x ∷ [])
made_snoc s r [] x h a b c = ((a, b, c), tt)
made_snoc s r (y ∷ piece) x h a b c = (h.0, made_snoc s r piece x h.1 a b c)

made_all : (s : Scenario) (r : ℕ) (piece : List Access) → AreMade s r piece → All (λ a. (a.general < s.generals) × (a.round ≡ r)) piece
made_all s r [] h k d lt = absurd (omega arith)
made_all s r (x ∷ piece) h zero d lt = (h.0.0, h.0.1)
made_all s r (x ∷ piece) h (suc k) d lt = made_all s r piece h.1 k d (omega arith)

made_below : (s : Scenario) (r : ℕ) (piece : List Access) → AreMade s r piece → AreBelow s.generals piece
made_below s r [] h = tt
made_below s r (x ∷ piece) h = (h.0.0, made_below s r piece h.1)

-- A loyal general has no entry.
made_none : (s : Scenario) (r g : ℕ) (piece : List Access) → AreMade s r piece → is_traitor s g ≡ false → accesses_of g piece ≡ []
made_none s r g [] h loyal = refl
made_none s r g (x ∷ piece) h loyal =
    rw (ne_eqb x.general g (λ e. true≢false (sym h.0.2 ∙ (ap (is_traitor s) e ∙ loyal)))) (made_none s r g piece h.1 loyal)

-- States that each general has exactly one letter.
abbrev Singles : ℕ → (ℕ → List Letter) → Type 0
Singles n f = (g : ℕ) → g < n → (l : Letter) × (f g ≡ l ∷ [])

singles_fewer : (n : ℕ) (f : ℕ → List Letter) → Singles (suc n) f → Singles n f
singles_fewer n f h g lt = h g (omega arith)

singles_length : (n : ℕ) (f : ℕ → List Letter) → Singles n f → length (each n f) ≡ n
singles_length zero f h = refl
singles_length (suc n) f h =
    let e = singles_length n f (singles_fewer n f h) in
    let one : length (f n) ≡ 1 = ap length (h n (omega arith)).1 in
    omega (arith, length-append (each n f) (f n))

singles_get : (n : ℕ) (f : ℕ → List Letter) → Singles n f → (g : ℕ) (l : Letter) → slice_get (each n f) g ≡ Some l → (g < n) × (f g ≡ l ∷ [])
singles_get zero f h g l e = cc
singles_get (suc n) f h g l e =
    let long = singles_length n f (singles_fewer n f h) in
    let whole = singles_length (suc n) f h in
    let last = h n (omega arith) in
    ⊎_elim
    (λ (q : (g == n ≡ true) × (g ≡ n)).
    let there : slice_get (each n f ++ f n) g ≡ slice_get (f n) 0 = get_right (each n f) (f n) g 0 (let w = q.1 in omega arith) in
    let same : last.0 ≡ l = (let i : Some last.0 ≡ Some l = sym (ap (λ ls. slice_get ls 0) last.1) ∙ (sym there ∙ e) in cc) in
    ((let w = q.1 in omega arith), ap f q.1 ∙ (last.1 ∙ ap (λ (m : Letter). m ∷ []) same)))
    (λ (q : (g == n ≡ false) × (g ≢ n)).
    let less : g < n = (let w = q.1 in let i = slice_get_within (each n f ++ f n) g l e in omega arith) in
    let r = singles_get n f (singles_fewer n f h) g l (sym (get_left (each n f) (f n) g (omega arith)) ∙ e) in
    (omega arith, r.1))
    (eqb_tells g n)

-- Returns how many of the accesses the first generals have made together.
abbrev total : ℕ → List Access → ℕ
total zero piece = 0
total (suc n) piece = total n piece + length (accesses_of n piece)

total_none : (n : ℕ) → total n [] ≡ 0
total_none zero = refl
total_none (suc n) = (let e = total_none n in omega arith)

total_one : (n : ℕ) (x : Access) (piece : List Access) → (x.general < n → total n (x ∷ piece) ≡ suc (total n piece)) × (n ≤ x.general → total n (x ∷ piece) ≡ total n piece)
total_one zero x piece = ((λ lt. absurd (omega arith)), (λ le. refl))
total_one (suc n) x piece =
    let before = total_one n x piece in (
      (λ lt. ⊎_elim
          (λ (q : (x.general == n ≡ true) × (x.general ≡ n)).
          let here : length (accesses_of n (x ∷ piece)) ≡ suc (length (accesses_of n piece)) = rw q.0 refl in
          let e = before.1 (let w = q.1 in omega arith) in omega arith)
          (λ (q : (x.general == n ≡ false) × (x.general ≢ n)).
          let here : length (accesses_of n (x ∷ piece)) ≡ length (accesses_of n piece) = rw q.0 refl in
          let e = before.0 (let w = q.1 in omega arith) in omega arith)
          (eqb_tells x.general n)),
      (λ le.
          let here : length (accesses_of n (x ∷ piece)) ≡ length (accesses_of n piece) = rw (ne_eqb x.general n (λ w. let v = w in omega arith)) refl in
          let e = before.1 (omega arith) in omega arith),
    )

-- All generals together have made all accesses.
total_all : (n : ℕ) (piece : List Access) → AreBelow n piece → total n piece ≡ length piece
total_all n [] h = total_none n
total_all n (x ∷ piece) h = (let e = total_all n piece h.1 in let f = (total_one n x piece).0 h.0 in omega arith)

singles_sum : (piece : List Access) (n : ℕ) (f : ℕ → List Letter) → ((g : ℕ) → g < n → (l : Letter) × (f g ≡ l ∷ []) × (accesses_of g piece ≡ l.transcript)) → sum_by (λ l. length l.transcript) (each n f) ≡ total n piece
singles_sum piece zero f h = refl
singles_sum piece (suc n) f h =
    let l = h n (omega arith) in
    let e = singles_sum piece n f (λ g lt. h g (omega arith)) in
    let one : sum_by (λ l. length l.transcript) (f n) ≡ length (accesses_of n piece) = ap (sum_by (λ l. length l.transcript)) l.1 ∙ (let t : length (accesses_of n piece) ≡ length l.0.transcript = ap length l.2 in omega arith) in
    omega (arith, sum_by-append (λ l. length l.transcript) (each n f) (f n))

module _ (K : Kind) where
  -- What the open round has added to the ledger.
  pub record Added (s : Scenario) (first w : World) : Type 0 where
    pub piece : List Access
    pub ledger : w.ledger ≡ first.ledger ++ piece
    pub made : AreMade s (suc (length first.closed)) piece

  pub added_first : (s : Scenario) (first : World) → Added s first first
  added_first s first = record { piece = []; ledger = sym (append-nil first.ledger); made = tt }

  served_added : (s : Scenario) (first w : World) (g : ℕ) (a : Activation) → w.closed ≡ first.closed → g < s.generals → IsDue s g a → Added s first w → (o : Turn) → Added s first (served w g o)
  served_added s first w g a closed lt due d (Goes b) = record { piece = d.piece; ledger = d.ledger; made = d.made }
  served_added s first w g a closed lt due d (Asks q f) =
      let x = access g (suc (length w.closed)) q (reply w.words q) in
      record {
        piece = d.piece ++ x ∷ [];
        ledger = ap (λ l. l ++ x ∷ []) d.ledger ∙ append_assoc first.ledger d.piece (x ∷ []);
        made = made_snoc s (suc (length first.closed)) d.piece x d.made lt (ap (λ c. suc (length c)) closed) (ap is_some due.program);
      }
  served_added s first w g a closed lt due d Ended = d

  ticked_added : (s : Scenario) (first w : World) (g : ℕ) → w.closed ≡ first.closed → IsOnTime K s w → Added s first w → (o : Option Progress) → slice_get w.parts g ≡ o → Added s first (ticked w g o)
  ticked_added s first w g closed t d None e = d
  ticked_added s first w g closed t d (Some (Acting a)) e =
      let A : Scenario → Type 0 = λ v. g < v.generals in
      served_added s first w g a closed (subst A t.scenario (t.kept.parts g (Acting a) e).0) (t.due g (Acting a) e) d (turn a)
  ticked_added s first w g closed t d (Some Silent) e = d
  ticked_added s first w g closed t d (Some Posted) e = d

  posting_added : (s : Scenario) (first w : World) (g : ℕ) → Added s first w → (o : Option Progress) → Added s first (posting w g o)
  posting_added s first w g d None = d
  posting_added s first w g d (Some (Acting a)) = d
  posting_added s first w g d (Some Silent) = record { piece = d.piece; ledger = d.ledger; made = d.made }
  posting_added s first w g d (Some Posted) = d

  pub move_added : (s : Scenario) (first w : World) (e : Event) → IsMove e → w.closed ≡ first.closed → IsOnTime K s w → Added s first w → Added s first (happen K w e)
  move_added s first w (Tick g) i closed t d = ticked_added s first w g closed t d (slice_get w.parts g) refl
  move_added s first w (Post g) i closed t d = posting_added s first w g d (slice_get w.parts g)
  move_added s first w Close i closed t d = absurd i

  module _ (s : Scenario) (closed : List (List Letter)) (words : List ℕ) (ledger : List Access) where
    abbrev first : World
    first = begun K s closed words ledger true

    -- The activation with which a traitor began the round.
    starts : (b : Bool) (g : ℕ) (a : Activation) (program : List Insn) → program_of s g ≡ Some program → slice_get (cond b (each s.generals (λ h. begins K s closed h (program_of s h) ∷ [])) []) g ≡ Some (Acting a)
        → started s.patience program (K.context s closed g) (K.relay s closed g) ≡ a
    starts true g a program is e =
        let h = each-get_only s.generals (λ j. begins K s closed j (program_of s j)) g (Acting a) e in
        let f : Acting a ≡ begins K s closed g (Some program) = h.1 ∙ ap (begins K s closed g) is in cc
    starts false g a program is e = cc

    -- A general's letter at the end of a round.
    letter_made : (w : World) (piece : List Access) → w.scenario ≡ s → w.closed ≡ closed → drop w.opened w.ledger ≡ piece → AreMade s (suc (length closed)) piece → IsRipe w
        → ((g : ℕ) (a : Activation) → slice_get w.parts g ≡ Some (Acting a) → Came K (begun K s closed words ledger true) piece g a)
        → (g : ℕ) (part : Progress) → slice_get w.parts g ≡ Some part → (o : Option (List Insn)) → program_of s g ≡ o → Fits o part
        → (l : Letter) × (letters_at K w g (Some part) ≡ l ∷ []) × IsLetterOf K s closed g o l × (accesses_of g piece ≡ l.transcript)
    letter_made w piece sc cl op made ripe came g (Acting a) at None is fits = absurd fits
    letter_made w piece sc cl op made ripe came g (Acting a) at (Some program) is fits =
        let c = came g a at in
        let from = starts (round_open s closed) g c.1 program is c.2 in
        let runs : Runs c.0 (started s.patience program (K.context s closed g) (K.relay s closed g)) (accesses_of g piece) a = (let A : Activation → Type 0 = λ b. Runs c.0 b (accesses_of g piece) a in subst A (sym from) c.3) in
        let steps = runs_steps c.0 (started s.patience program (K.context s closed g) (K.relay s closed g)) (accesses_of g piece) a runs in
        let k : c.0 ≡ a.state.steps = omega arith in
        let kept : Kept s.patience a = runs_kept s.patience c.0 (started s.patience program (K.context s closed g) (K.relay s closed g)) (accesses_of g piece) a (refl, within_none s.patience) runs in
        let l : Letter = record { general = g; round = suc (length closed); context = K.context s closed g; program = Some program; transcript = accesses_of g piece; steps = a.state.steps; outbox = record { relay = K.relay s closed g; rows = a.state.outbox; entries = a.state.entries }; exited = a.over } in
        let program_is : program_of w.scenario g ≡ Some program = ap (λ (v : Scenario). program_of v g) sc ∙ is in (
          l,
          (λ i. record { general = g; round = suc (length (cl i)); context = K.context (sc i) (cl i) g; program = program_is i; transcript = accesses_of g (op i); steps = a.state.steps; outbox = record { relay = K.relay (sc i) (cl i) g; rows = a.state.outbox; entries = a.state.entries }; exited = a.over } ∷ []),
          (
            under None a,
            (let A : ℕ → Type 0 = λ n. Runs n (started None program (K.context s closed g) (K.relay s closed g)) (accesses_of g piece) (under None a) in
                subst A k (runs_under None c.0 (started s.patience program (K.context s closed g) (K.relay s closed g)) (accesses_of g piece) a tt runs)),
            refl,
            kept.1,
            (let A : Option ℕ → Type 0 = λ p. (a.over || is_reached p a.state.steps) ≡ true in subst A kept.0 (ripe.ended_all g (Acting a) at)),
          ),
          refl,
        )
    letter_made w piece sc cl op made ripe came g Silent at o is fits = absurd (let f : false ≡ true = ripe.posted_all g Silent at in cc)
    letter_made w piece sc cl op made ripe came g Posted at None is fits =
        (loyal_letter K s closed g, (λ i. loyal_letter K (sc i) (cl i) g ∷ []), refl, made_none s (suc (length closed)) g piece made (ap is_some is))
    letter_made w piece sc cl op made ripe came g Posted at (Some program) is fits = absurd fits

    -- The letters at the end of a round account for what it added to the ledger, and have as many accesses.
    pub record Accounts (w : World) (piece : List Access) : Type 0 where
      pub round : IsAccountedRound K s closed piece (round_letters K w)
      pub count : sum_by (λ l. length l.transcript) (round_letters K w) ≡ length piece

    pub round_accounts : (w : World) (piece : List Access) → w.scenario ≡ s → w.closed ≡ closed → drop w.opened w.ledger ≡ piece → AreMade s (suc (length closed)) piece → length w.parts ≡ s.generals → IsKept K w → IsRipe w
        → ((g : ℕ) (a : Activation) → slice_get w.parts g ≡ Some (Acting a) → Came K (begun K s closed words ledger true) piece g a) → Accounts w piece
    round_accounts w piece sc cl op made count k ripe came =
        let f : ℕ → List Letter = λ g. letters_at K w g (slice_get w.parts g) in
        let one : (g : ℕ) → g < s.generals → (l : Letter) × (f g ≡ l ∷ []) × IsLetterOf K s closed g (program_of s g) l × (accesses_of g piece ≡ l.transcript) = (λ g lt.
        let p = part_within w.parts g (omega arith) in
        let A : Scenario → Type 0 = λ t. Fits (program_of t g) p.0 in
        let r = letter_made w piece sc cl op made ripe came g p.0 p.1 (program_of s g) refl (subst A sc (k.parts g p.0 p.1).1) in
        (r.0, ap (letters_at K w g) p.1 ∙ r.1, r.2, r.3)) in
        let singles : Singles s.generals f = (λ g lt. let r = one g lt in (r.0, r.1)) in
        let B : ℕ → Type 0 = λ n. IsAccountedRound K s closed piece (each n f) × (sum_by (λ l. length l.transcript) (each n f) ≡ length piece) in
        let both = subst B (sym (ap (λ (t : Scenario). t.generals) sc)) (
          record {
            count = singles_length s.generals f singles;
            each = λ g l at.
                let there = singles_get s.generals f singles g l at in
                let r = one g there.0 in
                let same : r.0 ≡ l = (let i : r.0 ∷ [] ≡ l ∷ [] = sym r.1 ∙ there.1 in cc) in
                let C : Letter → Type 0 = λ m. IsLetterOf K s closed g (program_of s g) m × (accesses_of g piece ≡ m.transcript) in
                subst C same (r.2, r.3);
            entries = made_all s (suc (length closed)) piece made;
          },
          singles_sum piece s.generals f (λ g lt. let r = one g lt in (r.0, r.1, r.3)) ∙ total_all s.generals piece (made_below s (suc (length closed)) piece made),
        ) in
        record { round = both.0; count = both.1 }
