-- Words that are rejected, and not because memory ran out, ask for no task. The requests of a call end at such words.
use Rattle.std.proofs.Common.{ℕ, suc, ◌≡◌, ◌≤◌, ◌<◌, List, arith, inr, length, refl, subst, sym}
use Rattle.std.specs.Prelude.{Option, None, Some, IfSome, IsSome, Vec, max, slice_index_or}
use Rattle.std.specs.Borrow.{Bor}
use Rattle.std.specs.Global.{Global}
use Rattle.cli_words.specs.Tasks.{IfRefused}
use Rattle.cli_words.specs.Usage.{Text}
use Rattle.cli_words.specs.declared.errors.TaskError.{TaskError}
use Rattle.cli_words.specs.declared.errors.TaskError.TheVariants as task
use Rattle.byzlab.specs.Failures.{IsUnasked, error_of}
use Rattle.byzlab.specs.Turns.{AreEndingsOf, IsErrorOf, IsToldAt}
use Rattle.byzlab.specs.declared.endings.Endings.{Endings}
use Rattle.byzlab.specs.declared.no_request.Unasked.{Unasked}

pub asked_nothing : (error : TaskError) (status : ℕ) (P : Type 0) → IsUnasked error status → IfRefused error P → P
asked_nothing (task.Words refusal) status P u p = p
asked_nothing (task.Misuse misuse) status P u p = p
asked_nothing task.Memory status P u p = absurd u

-- The requests of a call end at words about which this was reported.
pub end_before : (requests : List (Vec (Bor Text) Global)) (words : Vec (Bor Text) Global) (place worst : ℕ) (endings : Endings) (unasked : Unasked) (error : TaskError)
    → place < length requests → slice_index_or requests place words ≡ words → endings.count ≡ place
    → endings.worst ≡ max worst unasked.status → endings.unwritten ≡ None → endings.unasked ≡ Some unasked
    → (error_of unasked.why) ≡ error → IsUnasked error unasked.status → IsErrorOf words.items error
    → AreEndingsOf requests endings
end_before requests words place worst endings unasked error lt at here most written is same status told =
    let P : Option Unasked → Type 0 = λ o. IfSome o (λ u. (endings.unwritten ≡ None) × (u.status ≤ endings.worst) × IsToldAt endings.count requests u) in
    let L : Option ℕ → Type 0 = λ o. IfSome o (λ place. endings.count ≡ suc place) in
    let last : L endings.unwritten = subst L (sym written) tt in
    let some : IsSome endings.unasked = subst (λ (o : Option Unasked). IsSome o) (sym is) refl in
    let least : unasked.status ≤ endings.worst = omega (arith, most) in
    let own : IsErrorOf words.items (error_of unasked.why) = subst (IsErrorOf words.items) (sym same) told in
    let ends : IsUnasked (error_of unasked.why) unasked.status = subst (λ (e : TaskError). IsUnasked e unasked.status) (sym same) status in
    let inside : endings.count < length requests = subst (λ (n : ℕ). n < length requests) (sym here) lt in
    let there : slice_index_or requests endings.count words ≡ words = subst (λ (n : ℕ). slice_index_or requests n words ≡ words) (sym here) at in
    record { few = omega (arith, inside); all = inr (inr some); last = last; unasked = subst P (sym is) (written, least, (words, inside, there, (own, ends))) }
