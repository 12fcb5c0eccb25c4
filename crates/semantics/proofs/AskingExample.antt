-- A program that makes a request to the board is sound, whatever the board answers.
use Rattle.std.proofs.Common.{ℕ, zero, suc, ◌≤◌, List, [], refl, true, false, arith}
use Rattle.std.specs.Prelude.{Bool, cond, ◌∷◌, pos}
use Rattle.insn.specs.declared.insn.Insn.TheVariants as i
use Rattle.semantics.specs.Relay.{Relay}
use Rattle.semantics.specs.Execution.{step}
use Rattle.semantics.specs.declared.request.Request.{Request}
use Rattle.semantics.specs.State.{State}
use Rattle.semantics.specs.Run.{Running, Waiting, Exited, onwards, after, IsOver, IsTrapped}
use Rattle.semantics.specs.Plain.{IsPlain}
use Rattle.semantics.specs.Examples.{asks}

running_or_waiting : (b : Bool) (s t : State) (r : Request) → IsTrapped (cond b (Running s) (Waiting r t)) → ⊥
running_or_waiting true s t r trapped = trapped
running_or_waiting false s t r trapped = trapped

exited_or_waiting : (b : Bool) (n : ℕ) (s t : State) (r : Request) → IsTrapped (cond b (Exited n s) (Waiting r t)) → ⊥
exited_or_waiting true n s t r trapped = trapped
exited_or_waiting false n s t r trapped = trapped

over : (b : Bool) (n : ℕ) (s t : State) (r : Request) → IsOver (cond b (Exited n s) (Waiting r t))
over true n s t r = tt
over false n s t r = tt

pub asks_never_traps : (context : List ℕ) (relay : Relay) (answers : List (List ℕ)) (k : ℕ) → IsTrapped (after asks context relay answers k) → ⊥
unfolding onwards step
asks_never_traps context relay answers zero trapped = trapped
asks_never_traps context relay answers (suc zero) trapped = trapped
asks_never_traps context relay [] (suc (suc k)) trapped = trapped
asks_never_traps context relay (words ∷ answers) (suc (suc zero)) trapped = running_or_waiting _ _ _ _ trapped
asks_never_traps context relay (words ∷ answers) (suc (suc (suc k))) trapped = exited_or_waiting _ _ _ _ _ trapped

pub asks_ends : (context : List ℕ) (relay : Relay) (answers : List (List ℕ)) (k : ℕ) → 3 ≤ k → IsOver (after asks context relay answers k)
unfolding onwards step
asks_ends context relay answers zero le = absurd (omega arith)
asks_ends context relay answers (suc zero) le = absurd (omega arith)
asks_ends context relay answers (suc (suc zero)) le = absurd (omega arith)
asks_ends context relay [] (suc (suc (suc k))) le = tt
asks_ends context relay (words ∷ answers) (suc (suc (suc k))) le = over _ _ _ _ _

pub asks_not_plain : IsPlain asks → ⊥
asks_not_plain plain = plain.numbers 1 (i.Call (pos 1)) refl
