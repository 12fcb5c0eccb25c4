-- What holds in a signed world, and what its events change.
use Rattle.std.proofs.Common.{◌≡◌, ℕ, suc, ◌<◌, ◌≤◌, List, [], ◌∷◌, ◌++◌, length, drop, Bool, true, refl, sym, ap, subst, ◌∙◌, Result, Some, None, arith}
use Rattle.std.specs.Prelude.{OnOk, OnErr, slice_get, replicate, ◌&&◌}
use Rattle.std.specs.List.{list_all}
use Rattle.board.specs.Board.{Access}
use Rattle.board.specs.Ledger.{RecordedBoard}
use Rattle.round.specs.Scenario.{Scenario, IsScenario}
use Rattle.round.specs.Letters.{Letter}
use Rattle.world.specs.declared.event.Event.TheVariants.{Tick, Post, Close}
use Rattle.world.specs.Agreement.{IsFinished}
use Rattle.world.specs.Kind.{World, opening, happen}
use Rattle.world.specs.declared.part.Progress.{Progress}
use Rattle.world.specs.Part.{owes_no_letter}
use Rattle.world.specs.declared.draft.LetterDraft.{LetterDraft}
use Rattle.world.specs.Closing.{letters_from, AreDraftsOf}
use Rattle.signed.specs.Entries.{Dispatch}
use Rattle.signed.specs.Kind.{signed_kind}
use Rattle.world.specs.KindHeld.{world_of, IsHeld, AheadTo, ticked_of, posted_of, letters_held, beginnings}
use Rattle.signed.specs.Sending.{IsSent, IsSignedHeld, beginnings_behind, drafts_behind, sent_drafted, signatures}
use Rattle.signed.specs.Sent.{Sent, round_sent, sent_in}
use Rattle.signed.specs.Signers.{Signature}
use Rattle.signed.specs.Traitors.{AreAnyLetters}
use Rattle.signed.proofs.Along.{sent_none, sent_more, sent_length}
use Rattle.signed.proofs.Behind.{parts_behind}
use Rattle.signed.proofs.Drafted.{drafts_count, drafts_run, round_drafted, row_is}
use Rattle.world.proofs.Holding.{ahead_is, close_is, held_few, held_letters, held_on, post_is, tick_held}
use Rattle.signed.proofs.Telling.{signed_relays}
use Rattle.signed.proofs.Worlds.{any_written, played_any, signed_campaigns}

-- Before any event nothing was sent.
pub none_sent : (s : Scenario) → IsSent s []
none_sent s = ([], λ k g row l at lt of. absurd (let f : None ≡ Some row = at in cc), sym (sent_none s))

pub opened : (s : Scenario) (k : RecordedBoard) (ps : List Progress) → k.words ≡ s.board → k.ledger ≡ [] → ps ≡ beginnings_behind s [] → world_of s [] k 0 ps true ≡ opening signed_kind s
opened s k ps words ledger parts =
    let is : ps ≡ beginnings signed_kind s [] = parts ∙ (ap (λ (sent : Sent). beginnings_behind s sent) (sym (sent_none s)) ∙ parts_behind s []) in
    (λ i. record { scenario = s; closed = []; words = words i; ledger = ledger i; opened = 0; parts = is i; full = true })

pub opened_held : (s : Scenario) (k : RecordedBoard) (ps : List Progress) (sent : Sent) (signers : List Signature) → k.opening ≡ s.board → k.words ≡ s.board → k.ledger ≡ [] → ps ≡ beginnings_behind s [] → sent ≡ [] →
    signers ≡ signatures s.generals s.commander → IsSignedHeld s [] k 0 ps true sent signers
opened_held s k ps sent signers begun words ledger parts none all = record {
  reached = ([], sym (opened s k ps words ledger parts));
  opening = begun;
  chains = none ∙ sym (sent_none s);
  signing = all;
}

-- The same from borrowed contents of the world.
pub drafts_same : (s : Scenario) (x x' : Sent) (a a' : List Access) (p p' : List Progress) (ds : List LetterDraft) → ds ≡ drafts_behind s x' a' p' → x' ≡ x → a' ≡ a → p' ≡ p → ds ≡ drafts_behind s x a p
drafts_same s x x' a a' p p' ds is e f g = is ∙ (λ i. drafts_behind s (e i) (f i) (g i))

pub sendings_same : (s : Scenario) (x x' : Sent) (d d' : List LetterDraft) (p p' : List Progress) (sendings : List (List Dispatch)) → sendings ≡ sent_drafted s x' d' p' → x' ≡ x → d' ≡ d → p' ≡ p → sendings ≡ sent_drafted s x d p
sendings_same s x x' d d' p p' sendings is e f g = is ∙ (λ i. sent_drafted s (e i) (f i) (g i))

-- The chains sent are those of the letters of the closed rounds.
pub is_sent : (s : Scenario) (closed : List (List Letter)) (k : RecordedBoard) (opened : ℕ) (ps : List Progress) (full : Bool) (sent : Sent) (signers : List Signature) → IsScenario s → IsSignedHeld s closed k opened ps full sent signers → IsSent s sent
is_sent s closed k opened ps full sent signers is h =
    let any : AreAnyLetters s closed = subst (λ (w : World). AreAnyLetters s w.closed) h.reached.1 (played_any s h.reached.0 is) in
    (closed, any_written s closed any, h.chains)

module _ (s : Scenario) (closed : List (List Letter)) (k : RecordedBoard) (opened : ℕ) (ps : List Progress) (full : Bool) (sent : Sent) (signers : List Signature) (h : IsSignedHeld s closed k opened ps full sent signers) where
  pub as_held : IsHeld signed_kind s closed k opened ps full
  as_held = record { reached = h.reached; opening = h.opening }

  pub sent_long : length sent ≡ length closed
  sent_long = ap length h.chains ∙ sent_length s closed

  pub few_rounds : IsScenario s → length closed ≤ suc s.bound
  few_rounds is = held_few signed_kind s closed k opened ps full is as_held

  -- The world is finished if no round is open and every loyal general had posted in each.
  pub is_finished : (w : World) (len from : ℕ) → IsScenario s → world_of s closed k opened ps full ≡ w → len ≡ length closed → from ≡ s.bound → from < len → full ≡ true → IsFinished w
  is_finished w len from is same counted bound past filled =
      let few = few_rounds is in
      subst (λ (v : World). IsFinished v) same (record { closed = omega arith; full = filled })

  -- Events that close no round do not change the chains sent.
  pub kept : (k' : RecordedBoard) (ps' : List Progress) → IsHeld signed_kind s closed k' opened ps' full → IsSignedHeld s closed k' opened ps' full sent signers
  kept k' ps' held = record { reached = held.reached; opening = held.opening; chains = h.chains; signing = h.signing }

  pub ticked_kept : {A E : Type 0} (result : Result A E) (g r : ℕ) (ps' : List Progress) (k' : RecordedBoard) → r ≡ suc (length closed) → OnOk result ((ps', k') ≡ ticked_of g r ps k (slice_get ps g)) → OnErr result ((ps' ≡ ps) × (k' ≡ k)) →
      IsSignedHeld s closed k' opened ps' full sent signers
  ticked_kept result g r ps' k' counted done undone = kept k' ps' (tick_held signed_kind s closed k opened ps full result g r ps' k' counted as_held done undone)

  pub posted_kept : (g : ℕ) (ps' : List Progress) → ps' ≡ posted_of g ps (slice_get ps g) → IsSignedHeld s closed k opened ps' full sent signers
  posted_kept g ps' done = kept k ps' (held_on signed_kind s closed k opened ps full closed k opened ps' full (Post g ∷ []) as_held (post_is signed_kind s closed k opened ps full g ps' done) refl)

  pub ahead_kept : (limit taken g : ℕ) (ps' : List Progress) → AheadTo limit taken ps g (slice_get ps g) ps' → IsSignedHeld s closed k opened ps' full sent signers
  ahead_kept limit taken g ps' ahead =
      kept k ps' (held_on signed_kind s closed k opened ps full closed k opened ps' full (replicate taken (Tick g)) as_held (sym (ahead_is signed_kind s closed k opened full limit taken g ps ps' (slice_get ps g) refl ahead)) refl)

  -- Returns the letters of the open round, as they are now.
  abbrev pub row_now : List Letter
  row_now = letters_held signed_kind s closed (drop opened k.ledger) ps

  abbrev pub closed_now : List (List Letter)
  closed_now = closed ++ row_now ∷ []

  -- The drafts, the letters written from them, and the chains that these send.
  module _ (ds : List LetterDraft) (drafted : ds ≡ drafts_behind s sent (drop opened k.ledger) ps) where
    drafted_in : ds ≡ drafts_behind s (sent_in s closed) (drop opened k.ledger) ps
    drafted_in = drafted ∙ ap (λ (x : Sent). drafts_behind s x (drop opened k.ledger) ps) h.chains

    pub all_drafted : length ds ≡ s.generals
    all_drafted = drafts_count s closed (drop opened k.ledger) ps ds drafted_in

    pub drafts_of : (round : ℕ) → IsScenario s → round ≡ suc (length closed) → AreDraftsOf round ds ps
    drafts_of round is counted =
        drafts_run s closed (drop opened k.ledger) ps ds drafted_in round counted
        (held_letters signed_kind signed_campaigns signed_relays s closed k opened ps full (drop opened k.ledger) is as_held refl)

    pub row_written : (n round : ℕ) (row : List Letter) → n ≡ s.generals → round ≡ suc (length closed) → row ≡ letters_from n round ds ps → row ≡ row_now
    row_written n round row all counted is = row_is s closed (drop opened k.ledger) ps ds drafted_in n round row all counted is

    row_sent : (sendings : List (List Dispatch)) → sendings ≡ sent_drafted s sent ds ps → sendings ≡ round_sent s sent row_now
    row_sent sendings is =
        is ∙ (ap (λ (x : Sent). sent_drafted s x ds ps) h.chains
        ∙ (round_drafted s closed (drop opened k.ledger) ps ds drafted_in ∙ ap (λ (x : Sent). round_sent s x row_now) (sym h.chains)))

    pub round_pushed : (sendings : List (List Dispatch)) (sent' : Sent) → sendings ≡ sent_drafted s sent ds ps → sent' ≡ sent ++ sendings ∷ [] → sent' ≡ sent ++ round_sent s sent row_now ∷ []
    round_pushed sendings sent' is pushed = pushed ∙ ap (λ (r : List (List Dispatch)). sent ++ r ∷ []) (row_sent sendings is)

  module _ (sent' : Sent) (is : IsScenario s) (le : length closed ≤ s.bound) (now : sent' ≡ sent ++ round_sent s sent row_now ∷ []) where
    sent_now : (closed' : List (List Letter)) → closed' ≡ closed_now → sent' ≡ sent_in s closed'
    sent_now closed' rounds = now ∙ ((λ i. h.chains i ++ round_sent s (h.chains i) row_now ∷ []) ∙ (sym (sent_more s closed row_now) ∙ ap (sent_in s) (sym rounds)))

    -- The code's close is the event.
    pub closed_is : (closed' : List (List Letter)) (opened' : ℕ) (ps' : List Progress) (full' : Bool) → closed' ≡ closed_now → ps' ≡ beginnings_behind s sent' → opened' ≡ length k.ledger → full' ≡ (full && list_all owes_no_letter ps) →
        world_of s closed' k opened' ps' full' ≡ happen signed_kind (world_of s closed k opened ps full) Close
    closed_is closed' opened' ps' full' rounds parts since posted =
        close_is signed_kind signed_campaigns signed_relays s closed k opened ps full row_now closed' opened' ps' full' is as_held le refl rounds
        (parts ∙ (ap (λ (x : Sent). beginnings_behind s x) (sent_now closed' rounds) ∙ parts_behind s closed')) since posted

    pub closed_kept : (closed' : List (List Letter)) (opened' : ℕ) (ps' : List Progress) (full' : Bool) → closed' ≡ closed_now → ps' ≡ beginnings_behind s sent' → opened' ≡ length k.ledger → full' ≡ (full && list_all owes_no_letter ps) →
        IsSignedHeld s closed' k opened' ps' full' sent' signers
    closed_kept closed' opened' ps' full' rounds parts since posted =
        let held = held_on signed_kind s closed k opened ps full closed' k opened' ps' full' (Close ∷ []) as_held (closed_is closed' opened' ps' full' rounds parts since posted) refl in
        record { reached = held.reached; opening = held.opening; chains = sent_now closed' rounds; signing = h.signing }

    -- The next round begins with these chains sent.
    pub closing_sent : IsSent s sent'
    closing_sent = is_sent s closed_now k (length k.ledger) (beginnings_behind s sent') (full && list_all owes_no_letter ps) sent' signers is (closed_kept closed_now (length k.ledger) (beginnings_behind s sent') (full && list_all owes_no_letter ps) refl refl refl refl)
