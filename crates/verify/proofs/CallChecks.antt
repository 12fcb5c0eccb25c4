-- Checks in order, and what remains after them.
use Rattle.std.proofs.Common.{◌≡◌, ◌∙◌, List, Option, Some, None, refl, sym, ap}
use Rattle.std.specs.Prelude.{Result, Ok, Err, IsErrAnd}
use Rattle.std.specs.Option.{option_or}
use Rattle.semantics.specs.declared.request.Helper.{Helper}
use Rattle.helper.specs.Table.{arguments_of}
use Rattle.helper.specs.Results.{returned_range}
use Rattle.absval.specs.NumberSets.{within}
use Rattle.absval.specs.declared.value.AbsVal.{AbsVal}
use Rattle.verify.specs.declared.reason.Reason.{Reason}
use Rattle.verify.specs.declared.state.AbsState.{AbsState}
use Rattle.verify.specs.Reasons.{unless, outcome}
use Rattle.verify.specs.Calls.{answer_of, arguments_reason, window_reason, helper_reason, known_behind}
use Rattle.verify.specs.Transfer.{stack_behind, called}

-- ---- checks in order

pub passed : (r : Result (Unit {0}) Reason) (u : Unit {0}) (a : Option Reason) → r ≡ Ok u → r ≡ answer_of a → a ≡ None
passed r u None e f = refl
passed r u (Some reason) e f = cc

pub or_first : (a b : Option Reason) (r : Result (Unit {0}) Reason) → a ≡ None → r ≡ answer_of b → r ≡ answer_of (option_or a b)
or_first None b r e f = f
or_first (Some reason) b r e f = cc

pub or_last : (a : Option Reason) (r : Result (Unit {0}) Reason) → r ≡ answer_of a → r ≡ answer_of (option_or a None)
or_last None r e = e
or_last (Some reason) r e = e

pub err_is : (r : Result (Unit {0}) Reason) (reason : Reason) → IsErrAnd r (λ e. e ≡ reason) → r ≡ Err reason
err_is (Ok u) reason h = absurd h
err_is (Err other) reason h = ap Err h

pub or_refused : (a b : Option Reason) (r : Result (Unit {0}) Reason) (reason : Reason) → r ≡ Err reason → r ≡ answer_of a → r ≡ answer_of (option_or a b)
or_refused None b r reason e f = cc
or_refused (Some other) b r reason e f = f

-- ---- what is left

-- What remains for a part remains for the whole.
pub lifted : {A B : Type 0} (f : A → B) (r : Result (Unit {0}) Reason) (why : Option Reason) (new wanted : A) → outcome r new ≡ unless why wanted → outcome r (f new) ≡ unless why (f wanted)
lifted f (Ok u) None new wanted h = let same : new ≡ wanted = cc in ap (λ a. Ok (f a)) same
lifted f (Ok u) (Some reason) new wanted h = absurd cc
lifted f (Err other) None new wanted h = absurd cc
lifted f (Err other) (Some reason) new wanted h = let same : other ≡ reason = cc in ap Err same

-- Why the whole is rejected.
pub refused_for : {A : Type 0} (r : Result (Unit {0}) Reason) (why : Option Reason) (reason : Reason) (new wanted : A) → r ≡ Err reason → outcome r new ≡ unless why wanted → why ≡ Some reason
refused_for (Ok u) why reason new wanted e h = absurd cc
refused_for (Err other) None reason new wanted e h = absurd cc
refused_for (Err other) (Some stands) reason new wanted e h =
    let same : other ≡ stands = cc in let there : other ≡ reason = cc in ap (λ (x : Reason). Some x) (sym same ∙ there)

-- If it is not rejected, this remains.
pub accepted_with : {A : Type 0} (r : Result (Unit {0}) Reason) (why : Option Reason) (u : Unit {0}) (new wanted : A) → r ≡ Ok u → outcome r new ≡ unless why wanted → (why ≡ None) × (new ≡ wanted)
accepted_with (Ok v) None u new wanted e h = (refl, let same : new ≡ wanted = cc in same)
accepted_with (Ok v) (Some reason) u new wanted e h = absurd cc
accepted_with (Err other) why u new wanted e h = absurd cc

-- ---- calls

-- An argument is rejected.
pub arguments_refused : (helper : Helper) (a new wanted : AbsState) (r : Result (Unit {0}) Reason) (reason : Reason) → r ≡ Err reason →
    r ≡ answer_of (arguments_reason (arguments_of helper) 1 a.registers) → outcome r new ≡ unless (helper_reason (Some helper) a) wanted
arguments_refused helper a new wanted r reason e f = by_reason (arguments_reason (arguments_of helper) 1 a.registers) f
  where
    by_reason : (why : Option Reason) → r ≡ answer_of why → outcome r new ≡ unless (option_or why (window_reason helper a)) wanted
    by_reason None g = absurd cc
    by_reason (Some other) g = ap (λ (q : Result (Unit {0}) Reason). outcome q new) g

-- The arguments are accepted, and the memory is rejected.
pub window_refused : (helper : Helper) (a new wanted : AbsState) (r : Result (Unit {0}) Reason) (reason : Reason) → r ≡ Err reason →
    arguments_reason (arguments_of helper) 1 a.registers ≡ None → window_reason helper a ≡ Some reason → outcome r new ≡ unless (helper_reason (Some helper) a) wanted
window_refused helper a new wanted r reason e f g =
    ap (λ (q : Result (Unit {0}) Reason). outcome q new) e
    ∙ (λ i. unless (option_or (sym f i) (sym g i)) wanted)

-- Arguments and memory are accepted.
pub call_left : (helper : Helper) (a b : AbsState) (registers : List AbsVal) → arguments_reason (arguments_of helper) 1 a.registers ≡ None → window_reason helper a ≡ None →
    b ≡ record a { stack = stack_behind helper a } → registers ≡ known_behind (within (returned_range helper)) b.registers →
    Ok (record { registers = registers; stack = b.stack }) ≡ unless (helper_reason (Some helper) a) (called (Some helper) a)
call_left helper a b registers e f g h =
    ap (λ (xs : List AbsVal). Ok (record { registers = xs; stack = b.stack })) h
    ∙ (λ i. unless (option_or (sym e i) (sym f i)) (record { registers = known_behind (within (returned_range helper)) (g i).registers; stack = (g i).stack }))
