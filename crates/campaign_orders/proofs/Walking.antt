-- The order of a complete run results from choosing, again and again, which general makes the next access.
use Rattle.std.proofs.Common.{◌≡◌, ◌≢◌, ℕ, zero, suc, ◌<◌, ◌≤◌, List, [], ◌∷◌, ◌++◌, length, map, take, drop, true, false, refl, sym, ap, subst, ◌∙◌, ⊎_elim, Option, Some, None, arith, length-append}
use Rattle.std.specs.Prelude.{slice_get, ◌==◌, filter, sum_by}
use Rattle.std.proofs.lemmas.Bool.{lt-ltb}
use Rattle.std.proofs.lemmas.Bool.Decides.{eqb_tells}
use Rattle.board.specs.Board.{IsBoard, Access, words_after, IsLegal}
use Rattle.world.specs.declared.event.Event.{Event}
use Rattle.round.specs.Scenario.{Scenario, IsScenario}
use Rattle.round.specs.Letters.{Letter}
use Rattle.round.specs.Activation.{Activation, Turn, Goes, Asks, Ended, turn, has_ended}
use Rattle.round.specs.Runs.{Onward, Runs}
use Rattle.world.specs.declared.part.Progress.{Progress}
use Rattle.world.specs.declared.part.Progress.TheVariants.{Acting, Silent, Posted}
use Rattle.world.specs.Kind.{Kind, World, begun, opening, round_open, accesses_of, run}
use Rattle.world.specs.KindAccounted.{IsAccountedRound, AreAccounted}
use Rattle.world.specs.KindLists.{IsComplete, ticks_named, names_events, names_in}
use Rattle.world.proofs.Moves.{moves_same, moves_board, moves_keep, AllParts}
use Rattle.round.proofs.Going.{over_ended, going_zero, IsGoing}
use Rattle.world.proofs.Due.{Due, due_lasts}
use Rattle.world.proofs.Complete.{Within, WithinAfter, turn_left, due_within}
use Rattle.world.proofs.Lasting.{IsOnTime, named_moves, names_moves, opening_due, round_done}
use Rattle.world.proofs.Replays.{Comes, reach}
use Rattle.world.proofs.Following.{AreOf, Act, of_first, of_next, Ways}
use Rattle.world.proofs.Cutting.{AreFrom, cut, entries_of, accounted_from, filter_here, names_skip, legal_front, legal_rest}
use Rattle.world.proofs.Again.{Tells, ways_begin, acts_begin, round_again}
use Rattle.world.proofs.Accounting.{accounted_count}
use Rattle.world.proofs.Replaying.{runs_are_accounted}
use Rattle.world.specs.Campaigns.{IsCampaign, AreCampaigns}
use Rattle.campaign_orders.specs.Orders.{asks_or, asks_within, will_ask, IsRoundFrom, IsFrom, order_of}

-- A general who makes an access makes a request.
asks_zero : (k : ℕ) (a : Activation) (x : Access) (t : List Access) (end : Activation) → has_ended a ≡ true → Runs k a (x ∷ t) end → ⊥
asks_zero zero a x t end over way = (let e = way.0 in cc)
asks_zero (suc k) a x t end over way = (let A : Turn → Type 0 = λ o. Onward (Runs k) o (x ∷ t) end in subst A (over_ended a over) way)

pub within_zero : (a : Activation) → Within 0 a → has_ended a ≡ true
unfolding Within
within_zero a h = by h.0 h.1 h.2
  where
    by : (n : ℕ) → n ≤ 0 → IsGoing n a → has_ended a ≡ true
    by zero le going = going_zero a going
    by (suc n) le going = absurd (omega arith)

asks_by : (fuel k : ℕ) (x : Access) (t : List Access) (end : Activation) → ((b : Activation) → Within fuel b → Runs k b (x ∷ t) end → asks_within fuel b ≡ true)
    → (o : Turn) → WithinAfter fuel o → Onward (Runs k) o (x ∷ t) end → asks_or (asks_within fuel) o ≡ true
asks_by fuel k x t end again (Goes b) within way = again b within way
asks_by fuel k x t end again (Asks q f) within way = refl
asks_by fuel k x t end again Ended within way = absurd way

asks : (fuel k : ℕ) (a : Activation) (x : Access) (t : List Access) (end : Activation) → Within fuel a → Runs k a (x ∷ t) end → asks_within fuel a ≡ true
asks zero k a x t end within way = absurd (asks_zero k a x t end (within_zero a within) way)
asks (suc fuel) zero a x t end within way = absurd (let e = way.0 in cc)
asks (suc fuel) (suc k) a x t end within way = asks_by fuel k x t end (λ b w r. asks fuel k b x t end w r) (turn a) (turn_left fuel a within) way

-- A general who makes no access makes no request.
silent_by : (fuel k : ℕ) (end : Activation) → ((b : Activation) → Runs k b [] end → asks_within fuel b ≡ false) → (o : Turn) → Onward (Runs k) o [] end → asks_or (asks_within fuel) o ≡ false
silent_by fuel k end again (Goes b) way = again b way
silent_by fuel k end again (Asks q f) way = absurd way
silent_by fuel k end again Ended way = refl

pub silent : (fuel k : ℕ) (a end : Activation) → has_ended end ≡ true → Runs k a [] end → asks_within fuel a ≡ false
silent zero k a end over way = refl
silent (suc fuel) zero a end over way = ap (asks_or (asks_within fuel)) (ap turn way.1 ∙ over_ended end over)
silent (suc fuel) (suc k) a end over way = silent_by fuel k end (λ b r. silent fuel k b end over r) (turn a) way

module _ (K : Kind) where
  module _ (E : ℕ → Activation → Type 0) where
    all_silent : (w : World) → AllParts (Ways K E []) w.parts → (g : ℕ) (o : Option Progress) → slice_get w.parts g ≡ o → will_ask o ≡ false
    all_silent w ways g None e = refl
    all_silent w ways g (Some (Acting a)) e = (let way = ways g (Acting a) e in silent (length a.program) way.k a way.end way.over way.runs)
    all_silent w ways g (Some Silent) e = refl
    all_silent w ways g (Some Posted) e = refl

    way_else : (x : Access) (piece : List Access) (h : ℕ) (part : Progress) → x.general ≢ h → Ways K E (x ∷ piece) h part → Ways K E piece h part
    way_else x piece h (Acting a) ne w = record { k = w.k; end = w.end; runs = (let A : List Access → Type 0 = λ t. Runs w.k a t w.end in subst A (of_next h x piece ne) w.runs); over = w.over; is = w.is }
    way_else x piece h Silent ne w = tt
    way_else x piece h Posted ne w = tt

    act_later : (parts later : List Progress) (g : ℕ) (now : Activation) (piece : List Access) → slice_get later g ≡ Some (Acting now) → ((h : ℕ) → h ≢ g → slice_get later h ≡ slice_get parts h) → Act parts piece → Act later piece
    act_later parts later g now [] at others acts = tt
    act_later parts later g now (x ∷ piece) at others acts = (
      ⊎_elim (λ (q : (x.general == g ≡ true) × (x.general ≡ g)). (now, ap (slice_get later) q.1 ∙ at))
          (λ (q : (x.general == g ≡ false) × (x.general ≢ g)). (acts.0.0, others x.general q.1 ∙ acts.0.1))
          (eqb_tells x.general g),
      act_later parts later g now piece at others acts.1,
    )

    -- Each named general makes a further access when it is his turn.
    walk : (s : Scenario) (piece : List Access) (w : World) → IsBoard w.words → AllParts (Due s) w.parts → IsLegal w.words piece → AreOf (suc (length w.closed)) piece → Act w.parts piece
        → AllParts (Ways K E piece) w.parts → IsRoundFrom K w (map (λ a. a.general) piece)
    walk s [] w board due legal in_round acts ways = λ g. all_silent w ways g (slice_get w.parts g) refl
    walk s (x ∷ piece) w board due legal in_round acts ways =
        let g = x.general in
        let a = acts.0.0 in
        let at = acts.0.1 in
        let way = ways g (Acting a) at in
        let d = due g (Acting a) at in
        let runs : Runs way.k a (x ∷ accesses_of g piece) way.end = (let A : List Access → Type 0 = λ t. Runs way.k a t way.end in subst A (of_first g x piece refl) way.runs) in
        let ticks = ticks_named g (slice_get w.parts g) in
        let left = due_within s g a.program a d.program d in
        let c : Comes w (run K w ticks) g x (accesses_of g piece) way.end =
        (let A : Option Progress → Type 0 = λ o. Comes w (run K w (ticks_named g o)) g x (accesses_of g piece) way.end in
        subst A (sym at) (reach K (length a.program) way.k w g a x (accesses_of g piece) way.end at board refl in_round.0 legal.0 left runs)) in
        let v = run K w ticks in
        let moves = named_moves g (slice_get w.parts g) in
        let same = moves_same K ticks w moves in
        let ways' : AllParts (Ways K E piece) v.parts = (λ h part e. ⊎_elim
        (λ (q : (h == g ≡ true) × (h ≡ g)).
        let now : Some (Acting c.now) ≡ Some part = sym c.at ∙ (ap (slice_get v.parts) (sym q.1) ∙ e) in
        let part_is : Acting c.now ≡ part = cc in
        let A : ℕ → Progress → Type 0 = λ j p. Ways K E piece j p in
        subst (λ (j : ℕ). A j part) (sym q.1) (subst (λ (p : Progress). A g p) part_is (record { k = c.k; end = way.end; runs = c.way; over = way.over; is = way.is })))
        (λ (q : (h == g ≡ false) × (h ≢ g)). way_else x piece h part (λ s'. q.1 (sym s')) (ways h part (sym (c.others h q.1) ∙ e)))
        (eqb_tells h g)) in (
          ap will_ask at ∙ asks (length a.program) way.k a x (accesses_of g piece) way.end left runs,
          walk s piece v (moves_board K ticks w moves board) (moves_keep K (Due s) (due_lasts s) ticks w moves board due)
              (let A : List ℕ → Type 0 = λ ws. IsLegal ws piece in subst A (sym c.words) legal.1)
              (let A : List (List Letter) → Type 0 = λ ls. AreOf (suc (length ls)) piece in subst A (sym same.closed) in_round.1)
              (act_later w.parts v.parts g c.now piece c.at c.others acts.1) ways',
        )

  -- The same for an accounted round.
  pub round_walk : (s : Scenario) (closed : List (List Letter)) (words : List ℕ) (ledger piece : List Access) (letters : List Letter) → IsOnTime K s (begun K s closed words ledger true)
      → length closed < suc s.bound → IsLegal words piece → IsAccountedRound K s closed piece letters → IsRoundFrom K (begun K s closed words ledger true) (map (λ a. a.general) piece)
  round_walk s closed words ledger piece letters d less legal round =
      let w = begun K s closed words ledger true in
      let more : round_open s closed ≡ true = lt-ltb (length closed) (suc s.bound) less in
      walk (Tells letters) s piece w d.kept.board d.due legal (entries_of s.generals (suc (length closed)) piece round.entries)
      (acts_begin K s closed piece letters round (round_open s closed) more) (ways_begin K s closed piece letters round (round_open s closed))

  -- The same for all further rounds.
  rounds_walk : (s : Scenario) → IsCampaign K s → (rounds closed : List (List Letter)) (words : List ℕ) (ledger later : List Access)
      → IsOnTime K s (begun K s closed words ledger true) → IsLegal words later → AreAccounted K s closed later rounds
      → IsFrom K (begun K s closed words ledger true) (length rounds) (names_in (suc (length closed)) later (length rounds))
  rounds_walk s is [] closed words ledger later d legal h = refl
  rounds_walk s is (letters ∷ rounds) closed words ledger later d legal h =
      let count = sum_by (λ l. length l.transcript) letters in
      let piece = take count later in
      let rest = drop count later in
      let r = suc (length closed) in
      let m = length rounds in
      let closed' = closed ++ letters ∷ [] in
      let long : length closed' ≡ r = (let l = length-append closed (letters ∷ []) in omega arith) in
      let whole : piece ++ rest ≡ later = cut count later in
      let legal' : IsLegal words (piece ++ rest) = (let A : List Access → Type 0 = λ l. IsLegal words l in subst A (sym whole) legal) in
      let of_round : AreOf r piece = entries_of s.generals r piece h.0.entries in
      let from = accounted_from K s rounds closed' rest h.1 in
      let here : filter (λ a. a.round == r) (piece ++ rest) ≡ piece = filter_here r piece rest of_round (let A : ℕ → Type 0 = λ n. AreFrom (suc n) rest in subst A long from) in
      let names : names_in r later (suc m) ≡ map (λ a. a.general) piece ∷ names_in (suc (length closed')) rest m =
      ap (λ l. names_in r l (suc m)) (sym whole)
      ∙ (λ i. map (λ a. a.general) (here i) ∷ (names_skip m r (suc r) piece rest of_round (omega arith) ∙ ap (λ n. names_in (suc n) rest m) (sym long)) i) in
      let w = begun K s closed words ledger true in
      let less : length closed < suc s.bound = (let c = accounted_count K s (letters ∷ rounds) closed later h in omega arith) in
      let front = legal_front words piece rest legal' in
      let once = round_again K s is closed words ledger piece letters d less front h.0 in
      let w' = begun K s closed' (words_after words piece) (ledger ++ piece) true in
      let done = round_done K s is (names_events K w (map (λ a. a.general) piece)) w (names_moves K (map (λ a. a.general) piece) w) d less in
      let d' : IsOnTime K s w' = (let A : World → Type 0 = λ v. IsOnTime K s v in subst A once done.due) in
      let more = rounds_walk s is rounds closed' (words_after words piece) (ledger ++ piece) rest d' (legal_rest words piece rest legal') h.1 in
      let names' = names_in (suc (length closed')) rest m in
      let A : World → Type 0 = λ v. IsFrom K v m names' in
      let B : List (List ℕ) → Type 0 = λ o. IsFrom K w (suc m) o in
      subst B (sym names) (round_walk s closed words ledger piece letters d less front h.0, subst A (sym once) more)

  pub order_walks : AreCampaigns K → (s : Scenario) (events : List Event) → IsScenario s → IsComplete K s events → IsFrom K (opening K s) (suc s.bound) (order_of K s events)
  order_walks good s events is c =
      let w = run K (opening K s) events in
      let own = (runs_are_accounted K good).rounds s events is c in
      let count : length w.closed ≡ suc s.bound = (let n = accounted_count K s w.closed [] w.ledger own.1 in omega arith) in
      let A : ℕ → Type 0 = λ n. IsFrom K (opening K s) n (names_in 1 w.ledger n) in
      subst A count (rounds_walk s (good s is) w.closed [] s.board [] w.ledger (opening_due K s (good s is)) own.0 own.1)
