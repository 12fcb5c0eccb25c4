-- Which error a muster reports: the table by which it is found, and the conditions for each error, say the same.
use Rattle.std.proofs.Common.{◌≡◌, ◌≢◌, sym, ◌∙◌, refl}
use Rattle.std.specs.Prelude.{◌↔◌, Option, Some, None, IfSome, IsSomeAnd}
use Rattle.board.specs.Ledger.{RecordedBoard}
use Rattle.threads.specs.declared.error.MusterError.{MusterError}
use Rattle.threads.specs.declared.error.MusterError.TheVariants as errors
use Rattle.threads.specs.declared.failure.Failure.{Failure}
use Rattle.threads.specs.declared.failure.Failure.TheVariants as failures
use Rattle.threads.specs.declared.halt.Halt.{Halt}
use Rattle.threads.specs.declared.halt.Halt.TheVariants.{Unprepared, Unstarted, Memory, Failed, Strayed, Unlike}
use Rattle.threads.specs.Outcomes.{error_by, IfUnlike, failure_as, halt_as, IsDecidedBy, IsForeign, IsOutOfMemory, IsRefused, IsReturned, IsUnfit, IsUnstarted}

-- The error `e` is `x`, and so it is `m` exactly if `x` is.
same : {B : Type 0} (x e m : MusterError) → Some x ≡ Some e → (x ≡ m ↔ B) → (e ≡ m ↔ B)
same x e m is both =
    let here : x ≡ e = cc in (
      λ at. both.0 (here ∙ at),
      λ why. sym here ∙ both.1 why,
    )

-- No thread was left unstarted, and so the failure of a general decides.
his : (IsHis : Failure → Type 0) (m : MusterError) (f : Failure) {U : Type 0} → (¬ U) → (failure_as f ≡ m ↔ IsHis f) → (failure_as f ≡ m ↔ ((¬ U) × IsHis f))
his IsHis m f all both = (
  λ is. (all, both.0 is),
  λ why. both.1 why.1,
)

pub decided : (IsHis : Failure → Type 0) (IsCallers : Halt → Type 0) (m : MusterError) → m ≢ errors.Spawn
    → ((f : Failure) → failure_as f ≡ m ↔ IsHis f) → ((h : Halt) → halt_as h ≡ m ↔ IsCallers h)
    → (halt : Option Halt) (lowest : Option Failure) (e : MusterError) → error_by halt lowest ≡ Some e → (e ≡ m ↔ IsDecidedBy IsHis IsCallers halt lowest)
decided IsHis IsCallers m other fs hs (Some (Unstarted t)) (Some f) e is =
    let here : errors.Spawn ≡ e = cc in (
      λ at. absurd (other (sym at ∙ sym here)),
      λ why. absurd (why.0 tt),
    )
decided IsHis IsCallers m other fs hs (Some (Unstarted t)) None e is = same errors.Spawn e m is (hs (Unstarted t))
decided IsHis IsCallers m other fs hs None None e is = absurd cc
decided IsHis IsCallers m other fs hs None (Some f) e is = same (failure_as f) e m is (his IsHis m f (λ no. no) (fs f))
decided IsHis IsCallers m other fs hs (Some Unprepared) (Some f) e is = same (failure_as f) e m is (his IsHis m f (λ no. no) (fs f))
decided IsHis IsCallers m other fs hs (Some Memory) (Some f) e is = same (failure_as f) e m is (his IsHis m f (λ no. no) (fs f))
decided IsHis IsCallers m other fs hs (Some (Failed x)) (Some f) e is = same (failure_as f) e m is (his IsHis m f (λ no. no) (fs f))
decided IsHis IsCallers m other fs hs (Some (Strayed x)) (Some f) e is = same (failure_as f) e m is (his IsHis m f (λ no. no) (fs f))
decided IsHis IsCallers m other fs hs (Some (Unlike x)) (Some f) e is = same (failure_as f) e m is (his IsHis m f (λ no. no) (fs f))
decided IsHis IsCallers m other fs hs (Some Unprepared) None e is = same errors.Memory e m is (hs Unprepared)
decided IsHis IsCallers m other fs hs (Some Memory) None e is = same errors.Memory e m is (hs Memory)
decided IsHis IsCallers m other fs hs (Some (Failed x)) None e is = same errors.Unaccounted e m is (hs (Failed x))
decided IsHis IsCallers m other fs hs (Some (Strayed x)) None e is = same errors.Unaccounted e m is (hs (Strayed x))
decided IsHis IsCallers m other fs hs (Some (Unlike x)) None e is = same errors.Unaccounted e m is (hs (Unlike x))

his_memory : (f : Failure) → failure_as f ≡ errors.Memory ↔ IsRefused f
his_memory failures.Memory = (λ is. tt, λ why. refl)
his_memory (failures.Foreign x) = (λ is. absurd cc, λ why. absurd why)
his_memory (failures.Returned x) = (λ is. absurd cc, λ why. absurd why)

his_account : (f : Failure) → failure_as f ≡ errors.Unaccounted ↔ IsForeign f
his_account failures.Memory = (λ is. absurd cc, λ why. absurd why)
his_account (failures.Foreign x) = (λ is. tt, λ why. refl)
his_account (failures.Returned x) = (λ is. absurd cc, λ why. absurd why)

his_room : (f : Failure) → failure_as f ≡ errors.Post ↔ IsReturned f
his_room failures.Memory = (λ is. absurd cc, λ why. absurd why)
his_room (failures.Foreign x) = (λ is. absurd cc, λ why. absurd why)
his_room (failures.Returned x) = (λ is. tt, λ why. refl)

callers_memory : (h : Halt) → halt_as h ≡ errors.Memory ↔ IsOutOfMemory h
callers_memory Unprepared = (λ is. tt, λ why. refl)
callers_memory (Unstarted x) = (λ is. absurd cc, λ why. absurd why)
callers_memory Memory = (λ is. tt, λ why. refl)
callers_memory (Failed x) = (λ is. absurd cc, λ why. absurd why)
callers_memory (Strayed x) = (λ is. absurd cc, λ why. absurd why)
callers_memory (Unlike x) = (λ is. absurd cc, λ why. absurd why)

callers_account : (h : Halt) → halt_as h ≡ errors.Unaccounted ↔ IsUnfit h
callers_account Unprepared = (λ is. absurd cc, λ why. absurd why)
callers_account (Unstarted x) = (λ is. absurd cc, λ why. absurd why)
callers_account Memory = (λ is. absurd cc, λ why. absurd why)
callers_account (Failed x) = (λ is. tt, λ why. refl)
callers_account (Strayed x) = (λ is. tt, λ why. refl)
callers_account (Unlike x) = (λ is. tt, λ why. refl)

callers_room : (h : Halt) → halt_as h ≡ errors.Post ↔ ⊥
callers_room Unprepared = (λ is. absurd cc, λ why. absurd why)
callers_room (Unstarted x) = (λ is. absurd cc, λ why. absurd why)
callers_room Memory = (λ is. absurd cc, λ why. absurd why)
callers_room (Failed x) = (λ is. absurd cc, λ why. absurd why)
callers_room (Strayed x) = (λ is. absurd cc, λ why. absurd why)
callers_room (Unlike x) = (λ is. absurd cc, λ why. absurd why)

pub memory_by : (halt : Option Halt) (lowest : Option Failure) (e : MusterError) → error_by halt lowest ≡ Some e → (e ≡ errors.Memory ↔ IsDecidedBy IsRefused IsOutOfMemory halt lowest)
memory_by = decided IsRefused IsOutOfMemory errors.Memory (λ is. cc) his_memory callers_memory

pub account_by : (halt : Option Halt) (lowest : Option Failure) (e : MusterError) → error_by halt lowest ≡ Some e → (e ≡ errors.Unaccounted ↔ IsDecidedBy IsForeign IsUnfit halt lowest)
account_by = decided IsForeign IsUnfit errors.Unaccounted (λ is. cc) his_account callers_account

pub room_by : (halt : Option Halt) (lowest : Option Failure) (e : MusterError) → error_by halt lowest ≡ Some e → (e ≡ errors.Post ↔ IsDecidedBy IsReturned (λ halt. ⊥) halt lowest)
room_by = decided IsReturned (λ halt. ⊥) errors.Post (λ is. cc) his_room callers_room

his_thread : (f : Failure) → failure_as f ≢ errors.Spawn
his_thread failures.Memory is = cc
his_thread (failures.Foreign x) is = cc
his_thread (failures.Returned x) is = cc

-- The error `e` is `x`, which is not that of a thread that was not started.
never : (x e : MusterError) → Some x ≡ Some e → x ≢ errors.Spawn → (e ≡ errors.Spawn ↔ ⊥)
never x e is other =
    let here : x ≡ e = cc in (
      λ at. other (here ∙ at),
      λ why. absurd why,
    )

pub thread_by : (halt : Option Halt) (lowest : Option Failure) (e : MusterError) → error_by halt lowest ≡ Some e → (e ≡ errors.Spawn ↔ IsSomeAnd halt IsUnstarted)
thread_by (Some (Unstarted t)) lowest e is =
    let here : errors.Spawn ≡ e = cc in (
      λ at. tt,
      λ why. sym here,
    )
thread_by None None e is = absurd cc
thread_by None (Some f) e is = never (failure_as f) e is (his_thread f)
thread_by (Some Unprepared) (Some f) e is = never (failure_as f) e is (his_thread f)
thread_by (Some Memory) (Some f) e is = never (failure_as f) e is (his_thread f)
thread_by (Some (Failed x)) (Some f) e is = never (failure_as f) e is (his_thread f)
thread_by (Some (Strayed x)) (Some f) e is = never (failure_as f) e is (his_thread f)
thread_by (Some (Unlike x)) (Some f) e is = never (failure_as f) e is (his_thread f)
thread_by (Some Unprepared) None e is = never errors.Memory e is (λ no. cc)
thread_by (Some Memory) None e is = never errors.Memory e is (λ no. cc)
thread_by (Some (Failed x)) None e is = never errors.Unaccounted e is (λ no. cc)
thread_by (Some (Strayed x)) None e is = never errors.Unaccounted e is (λ no. cc)
thread_by (Some (Unlike x)) None e is = never errors.Unaccounted e is (λ no. cc)

-- Whatever is to hold of a board that does not account for the letters, if no board was compared with them.
pub unlike_never : (o : Option Halt) (P : RecordedBoard → Type 0) → IfSome o (λ h. IfUnlike h (λ b. ⊥)) → IfSome o (λ h. IfUnlike h P)
unlike_never None P none = tt
unlike_never (Some Unprepared) P none = tt
unlike_never (Some (Unstarted x)) P none = tt
unlike_never (Some Memory) P none = tt
unlike_never (Some (Failed x)) P none = tt
unlike_never (Some (Strayed x)) P none = tt
unlike_never (Some (Unlike x)) P none = absurd none
