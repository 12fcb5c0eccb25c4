-- The chronicle of a complete run is whole: it has the letters of all rounds.
use Rattle.std.proofs.Common.{ℕ, zero, suc, ◌+◌, ◌≡◌, List, [], ◌∷◌, ◌++◌, length, length-append, take, drop, refl, sym, ap, subst, ◌∙◌, arith, zero-add, Option, None, Some}
use Rattle.std.specs.Prelude.{slice_get, sum_by}
use Rattle.insn.specs.declared.insn.Insn.{Insn}
use Rattle.board.specs.Board.{Access}
use Rattle.round.specs.Scenario.{Scenario, IsScenario, program_of, shape_of}
use Rattle.round.specs.Letters.{Letter}
use Rattle.round.specs.Origin.{AreLettersOf, AreRoundsOf}
use Rattle.world.specs.Accounted.{IsLetterOf, IsAccountedRound, AreAccounted}
use Rattle.world.specs.Chronicle.{Chronicle, chronicle_of}
use Rattle.world.specs.Lists.{listed, replayed}
use Rattle.world.specs.World.{World, oral_kind, opening, run}
use Rattle.world.proofs.Campaigns.{oral_campaigns}
use Rattle.world.proofs.Lasting.{lists_are_complete}
use Rattle.world.proofs.Punctual.{run_scenario}
use Rattle.world.proofs.Replaying.{runs_are_accounted}
use Rattle.show_table.specs.Retold.{IsWhole}
use Rattle.show_table.specs.Laws.{RunsAreWhole}

whose : (s : Scenario) (before : List (List Letter)) (g : ℕ) (o : Option (List Insn)) (l : Letter) → IsLetterOf s before g o l → (l.round ≡ suc (length before)) × (l.outbox.relay.shape ≡ shape_of s l.general (suc (length before)))
whose s before g None l e = (
  ap (λ (x : Letter). x.round) e,
  ap (λ (x : Letter). x.outbox.relay.shape) e ∙ ap (λ (h : ℕ). shape_of s h (suc (length before))) (sym (ap (λ (x : Letter). x.general) e)),
)
whose s before g (Some p) l h = (
  ap (λ (x : Letter). x.round) h.2,
  ap (λ (x : Letter). x.outbox.relay.shape) h.2 ∙ ap (λ (k : ℕ). shape_of s k (suc (length before))) (sym (ap (λ (x : Letter). x.general) h.2)),
)

-- Proves that the letters of an accounted round are letters of that round.
letters_are : (s : Scenario) (before : List (List Letter)) (piece : List Access) (row : List Letter) → IsAccountedRound s before piece row → AreLettersOf s (suc (length before)) row
letters_are s before piece row h i l at = whose s before i (program_of s i) l (h.each i l at).0

rounds_from : (s : Scenario) (before rows : List (List Letter)) (ledger : List Access) → AreAccounted s before ledger rows → (i : ℕ) (row : List Letter) → slice_get rows i ≡ Some row → AreLettersOf s (suc (length before + i)) row
rounds_from s before [] ledger h i row at = cc
rounds_from s before (letters ∷ rows) ledger h zero row at =
    let same : letters ≡ row = cc in
    let e : suc (length before) ≡ suc (length before + 0) = omega arith in
    (let A : ℕ → List Letter → Type 0 = λ n ls. AreLettersOf s n ls in
    subst (λ (ls : List Letter). A (suc (length before + 0)) ls) same
    (subst (λ (n : ℕ). A n letters) e (letters_are s before (take (sum_by (λ l. length l.transcript) letters) ledger) letters h.0)))
rounds_from s before (letters ∷ rows) ledger h (suc i) row at =
    let e : suc (length (before ++ letters ∷ []) + i) ≡ suc (length before + suc i) = omega (arith, length-append before (letters ∷ [])) in
    (let A : ℕ → Type 0 = λ n. AreLettersOf s n row in subst A e (rounds_from s (before ++ letters ∷ []) rows (drop (sum_by (λ l. length l.transcript) letters) ledger) h.1 i row at))

-- Proves this for each accounted round.
rounds_are : (s : Scenario) (ledger : List Access) (rows : List (List Letter)) → AreAccounted s [] ledger rows → AreRoundsOf s rows
rounds_are s ledger rows h i row at =
    let e : suc (0 + i) ≡ suc i = omega arith in
    (let A : ℕ → Type 0 = λ n. AreLettersOf s n row in subst A e (rounds_from s [] rows ledger h i row at))

-- Proves that all rounds are accounted for.
rounds_long : (s : Scenario) (before rows : List (List Letter)) (ledger : List Access) → AreAccounted s before ledger rows → length before + length rows ≡ suc s.bound
rounds_long s before [] ledger h = let all = h.0 in omega arith
rounds_long s before (letters ∷ rows) ledger h =
    let rest = rounds_long s (before ++ letters ∷ []) rows (drop (sum_by (λ l. length l.transcript) letters) ledger) h.1 in
    omega (arith, length-append before (letters ∷ []))

-- Proves the law that specs/Laws states.
pub proved_runs_are_whole : RunsAreWhole
proved_runs_are_whole s events inside complete =
    let w : World = run (opening s) events in
    let same : (run (opening s) events).scenario ≡ s = run_scenario oral_kind events (opening s) in
    let accounted = ((runs_are_accounted oral_kind oral_campaigns).rounds s events inside complete).1 in
    record {
      rounds = subst (λ (t : Scenario). length (run (opening s) events).closed ≡ suc t.bound) (sym same) (sym (zero-add (length (run (opening s) events).closed)) ∙ rounds_long s [] (run (opening s) events).closed (run (opening s) events).ledger accounted);
      letters = subst (λ (t : Scenario). AreRoundsOf t (run (opening s) events).closed) (sym same) (rounds_are s (run (opening s) events).ledger (run (opening s) events).closed accounted);
      decisions = refl;
    }

-- Proves that the chronicle of a campaign played by a schedule is whole.
pub played_whole : (s : Scenario) (lines : List (List ℕ)) (c : Chronicle) → IsScenario s → c ≡ chronicle_of (run (opening s) (listed s lines)) → IsWhole c
played_whole s lines c inside is = subst IsWhole (sym is) (proved_runs_are_whole s (listed s lines) inside ((lists_are_complete oral_kind oral_campaigns).listed s lines inside))

-- Proves that the chronicle of a replay is whole.
pub replayed_whole : (s : Scenario) (names : List (List ℕ)) (c : Chronicle) → IsScenario s → c ≡ chronicle_of (run (opening s) (replayed s names)) → IsWhole c
replayed_whole s names c inside is = subst IsWhole (sym is) (proved_runs_are_whole s (replayed s names) inside ((lists_are_complete oral_kind oral_campaigns).replayed s names inside))
