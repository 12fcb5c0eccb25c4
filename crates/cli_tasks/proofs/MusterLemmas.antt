-- Lemmas about a result that differs from another one only in its error, and about the error of a muster.
use Rattle.std.proofs.Common.{◌≡◌, refl, sym, subst}
use Rattle.std.specs.Prelude.{◌↔◌, Result, Ok, Err, IfErr, IsErrAnd, MatchResult}
use Rattle.threads.specs.Outcomes.{LacksAccount, LacksMemory, LacksRoom, LacksThread}
use Rattle.threads.specs.declared.error.MusterError.{MusterError}
use Rattle.threads.specs.declared.error.MusterError.TheVariants as muster
use Rattle.threads.specs.declared.outcomes.Outcomes.{Outcomes}
use Rattle.cli_tasks.specs.CampaignRefusals.{RefusesMuster}
use Rattle.cli_tasks.specs.Refusals.{muster_refusal}
use Rattle.cli_tasks.specs.declared.refusal.InputRefusal.{InputRefusal}

-- If a property of the error follows from the two errors, it holds for the result.
pub either_err : {T E F : Type 0} (Q : E → F → Type 0) (R : E → Type 0) (P : F → Type 0) (answer : Result T E) (own : Result T F) → MatchResult answer (λ t. own ≡ Ok t) (λ e. IsErrAnd own (Q e))
    → ((e : E) (f : F) → R e → Q e f → P f) → IfErr answer R → IfErr own P
either_err {T} {E} {F} Q R P (Ok t) own is weaker r = subst (λ (x : Result T F). IfErr x P) (sym is) tt
either_err {T} {E} {F} Q R P (Err e) (Ok t) is weaker r = absurd is
either_err {T} {E} {F} Q R P (Err e) (Err f) is weaker r = weaker e f r is

-- The threads of a muster ended so that its error is `e`.
refuses_as : (o : Outcomes) (e : MusterError) → (e ≡ muster.Unaccounted ↔ LacksAccount o) → (e ≡ muster.Spawn ↔ LacksThread o) → (e ≡ muster.Post ↔ LacksRoom o)
    → RefusesMuster (muster_refusal e)
refuses_as o muster.Memory unaccounted spawn post = tt
refuses_as o muster.Unaccounted unaccounted spawn post = ((λ p. absurd (let h = p in cc)), (o, unaccounted.0 refl))
refuses_as o muster.Spawn unaccounted spawn post = ((λ p. absurd (let h = p in cc)), (o, spawn.0 refl))
refuses_as o muster.Post unaccounted spawn post = ((λ p. absurd (let h = p in cc)), (o, post.0 refl))

pub refuses_muster : (o : Outcomes) (e : MusterError) (refusal : InputRefusal) → (e ≡ muster.Unaccounted ↔ LacksAccount o) → (e ≡ muster.Spawn ↔ LacksThread o) → (e ≡ muster.Post ↔ LacksRoom o)
    → refusal ≡ muster_refusal e → RefusesMuster refusal
refuses_muster o e refusal unaccounted spawn post is = subst RefusesMuster (sym is) (refuses_as o e unaccounted spawn post)
