-- No round has more accesses than its traitors' programs have instructions.
use Rattle.std.proofs.Common.{◌≡◌, ℕ, zero, suc, ◌*◌, ◌<◌, ◌≤◌, List, [], ◌∷◌, ◌++◌, length, map, take, drop, refl, sym, ap, subst, ◌∙◌, Option, Some, None, arith, All, length-append}
use Rattle.std.proofs.lemmas.List.{length-map}
use Rattle.std.specs.Prelude.{slice_get, slice_index_or, ◌==◌, filter, sum_by}
use Rattle.std.proofs.lemmas.List.Sums.{sum_by-le, sum_by-cons}
use Rattle.insn.specs.declared.insn.Insn.{Insn}
use Rattle.board.specs.Board.{Access}
use Rattle.round.specs.Scenario.{Scenario, IsScenario, program_of}
use Rattle.round.specs.Letters.{Letter}
use Rattle.round.specs.Activation.{Activation, started, Turn, Goes, Asks, Ended, turn}
use Rattle.round.specs.Runs.{Onward, Runs}
use Rattle.world.specs.declared.event.Event.{Event}
use Rattle.world.specs.Kind.{Kind, opening, run}
use Rattle.world.specs.Campaigns.{AreCampaigns}
use Rattle.world.specs.KindAccounted.{IsLetterOf, IsAccountedRound, AreAccounted}
use Rattle.world.specs.KindLists.{IsComplete, names_in}
use Rattle.world.specs.Safety.{IsShort}
use Rattle.world.proofs.Untrapped.{held}
use Rattle.world.proofs.Following.{AreOf}
use Rattle.world.proofs.Cutting.{AreFrom, cut, entries_of, accounted_from, filter_here, names_skip}
use Rattle.world.proofs.Accounting.{accounted_count}
use Rattle.world.proofs.Replaying.{runs_are_accounted}
use Rattle.campaign_orders.specs.Orders.{order_of, IsOrder}
use Rattle.campaign_orders.specs.Listing.{AreShort, instructions, most_in_round, OrdersAreWhole}
use Rattle.campaign_orders.proofs.Listed.{orders_are_listed}

-- A run has at most as many accesses as steps.
few_by : (k : ℕ) (x : List Access) (end : Activation) → ((a : Activation) (t : List Access) → Runs k a t end → length t ≤ k) → (o : Turn) (t : List Access) → Onward (Runs k) o t end → length t ≤ suc k
few_by k x end again (Goes b) t r = (let l = again b t r in omega arith)
few_by k x end again (Asks q f) [] r = absurd r
few_by k x end again (Asks q f) (y ∷ t) r = (let l = again (f y.reply) t r.1 in omega arith)
few_by k x end again Ended t r = absurd r

few_accesses : (k : ℕ) (a end : Activation) (t : List Access) → Runs k a t end → length t ≤ k
few_accesses zero a end t r = (let e = ap length r.0 in omega arith)
few_accesses (suc k) a end t r = few_by k t end (λ b u q. few_accesses k b end u q) (turn a) t r

-- A program is one of those of the scenario.
one_of : (ps : List (Option (List Insn))) (g : ℕ) (program : List Insn) → slice_index_or ps g None ≡ Some program → length program ≤ sum_by instructions ps
one_of [] g program e = absurd (let f : None ≡ Some program = e in cc)
one_of (o ∷ ps) zero program e = (let l : instructions o ≡ length program = ap instructions e in omega (arith, sum_by-cons instructions o ps))
one_of (o ∷ ps) (suc g) program e = (let l = one_of ps g program e in omega (arith, sum_by-cons instructions o ps))

pub get_of : {A : Type 0} → (xs : List A) (k : ℕ) (d : A) → k < length xs → slice_get xs k ≡ Some (slice_index_or xs k d)
get_of [] k d lt = absurd (omega arith)
get_of (x ∷ xs) zero d lt = refl
get_of (x ∷ xs) (suc k) d lt = get_of xs k d (omega arith)

take_few : (n : ℕ) (xs : List Access) → length (take n xs) ≤ n
take_few zero xs = omega arith
take_few (suc n) [] = omega arith
take_few (suc n) (x ∷ xs) = (let l = take_few n xs in omega arith)

module _ (K : Kind) where
  letter_few : (s : Scenario) (before : List (List Letter)) (g : ℕ) (l : Letter) (o : Option (List Insn)) → program_of s g ≡ o → IsShort l → IsLetterOf K s before g o l → length l.transcript ≤ sum_by instructions s.programs
  letter_few s before g l None e short h = (let t = ap (λ (m : Letter). length m.transcript) h in omega arith)
  letter_few s before g l (Some program) e short h =
      let few = few_accesses l.steps (started None program (K.context s before g) (K.relay s before g)) h.0 l.transcript h.1 in
      let is : l.program ≡ Some program = ap (λ (m : Letter). m.program) h.2 in
      let steps = short program is in
      (let n = one_of s.programs g program e in omega arith)

  round_few : (s : Scenario) (before : List (List Letter)) (piece : List Access) (letters : List Letter) → All IsShort letters → IsAccountedRound K s before piece letters →
      sum_by (λ l. length l.transcript) letters ≤ most_in_round s
  round_few s before piece letters short h =
      let each : All (λ (l : Letter). length l.transcript ≤ sum_by instructions s.programs) letters =
      (λ k d lt. letter_few s before k (slice_index_or letters k d) (program_of s k) refl (short k d lt) (h.each k (slice_index_or letters k d) (get_of letters k d lt)).0) in
      let all = sum_by-le (λ (l : Letter). length l.transcript) (sum_by instructions s.programs) letters each in
      (let A : ℕ → Type 0 = λ n. sum_by (λ (l : Letter). length l.transcript) letters ≤ n * sum_by instructions s.programs in subst A h.count all)

  rounds_short : (s : Scenario) → (rounds closed : List (List Letter)) (later : List Access) → All (λ letters. All IsShort letters) rounds → AreAccounted K s closed later rounds
      → AreShort (most_in_round s) (names_in (suc (length closed)) later (length rounds))
  rounds_short s [] closed later short h = tt
  rounds_short s (letters ∷ rounds) closed later short h =
      let count = sum_by (λ (l : Letter). length l.transcript) letters in
      let piece = take count later in
      let rest = drop count later in
      let r = suc (length closed) in
      let m = length rounds in
      let closed' = closed ++ letters ∷ [] in
      let long : length closed' ≡ r = (let l = length-append closed (letters ∷ []) in omega arith) in
      let whole : piece ++ rest ≡ later = cut count later in
      let of_round : AreOf r piece = entries_of s.generals r piece h.0.entries in
      let from = accounted_from K s rounds closed' rest h.1 in
      let here : filter (λ a. a.round == r) (piece ++ rest) ≡ piece = filter_here r piece rest of_round (let A : ℕ → Type 0 = λ n. AreFrom (suc n) rest in subst A long from) in
      let names : names_in r later (suc m) ≡ map (λ a. a.general) piece ∷ names_in (suc (length closed')) rest m =
      ap (λ l. names_in r l (suc m)) (sym whole)
      ∙ (λ i. map (λ a. a.general) (here i) ∷ (names_skip m r (suc r) piece rest of_round (omega arith) ∙ ap (λ n. names_in (suc n) rest m) (sym long)) i) in
      let few = round_few s closed piece letters (short 0 letters (omega arith)) h.0 in
      let long_piece = take_few count later in
      let B : List (List ℕ) → Type 0 = λ o. AreShort (most_in_round s) o in
      subst B (sym names) (
        (let l = length-map piece (λ (a : Access). a.general) in omega arith),
        rounds_short s rounds closed' rest (λ k d lt. short (suc k) d (omega arith)) h.1,
      )

  pub order_short : AreCampaigns K → (s : Scenario) (events : List Event) → IsScenario s → IsComplete K s events → AreShort (most_in_round s) (order_of K s events)
  order_short good s events is c =
      let w = run K (opening K s) events in
      let own = (runs_are_accounted K good).rounds s events is c in
      let count : length w.closed ≡ suc s.bound = (let n = accounted_count K s w.closed [] w.ledger own.1 in omega arith) in
      let A : ℕ → Type 0 = λ n. AreShort (most_in_round s) (names_in 1 w.ledger n) in
      subst A count (rounds_short s w.closed [] w.ledger (held K s events (good s is)).short own.1)

  pub orders_are_whole : AreCampaigns K → OrdersAreWhole K
  orders_are_whole good = record {
    all = λ s order is. (
      (λ h. (((orders_are_listed K good).all s (most_in_round s) order is).0 h).0),
      (λ (o : IsOrder K s order). ((orders_are_listed K good).all s (most_in_round s) order is).1 (o, (let A : List (List ℕ) → Type 0 = λ x. AreShort (most_in_round s) x in subst A o.2 (order_short good s o.0 is o.1)))),
    );
    once = λ s. (orders_are_listed K good).once s (most_in_round s);
  }
