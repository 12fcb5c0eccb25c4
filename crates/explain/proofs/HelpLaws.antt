-- With each edit that is offered as a help, the verifier gets past the rejected instruction.
use Rattle.std.proofs.Common.{◌≡◌, ◌∙◌, ℕ, ◌+◌, ◌<◌, List, [], ◌∷◌, Bool, true, false, Option, Some, None, length, refl, sym, subst}
use Rattle.std.specs.Prelude.{◌&&◌, nat_lt, nat_le, if◌then◌else◌}
use Rattle.std.proofs.lemmas.Bool.{ltb-true}
use Rattle.insn.specs.declared.insn.Insn.{Insn}
use Rattle.insn.specs.Program.{slots_of}
use Rattle.verify.specs.declared.error.VerifyError.{VerifyError}
use Rattle.verify.specs.declared.error.VerifyError.TheVariants.{At, Memory}
use Rattle.verify.specs.declared.reason.Reason.{Reason}
use Rattle.verify.specs.Judgement.{judged}
use Rattle.reaching.specs.declared.edits.Edit.{Edit}
use Rattle.reaching.specs.declared.edits.Trial.{Trial}
use Rattle.reaching.specs.declared.edits.Trial.TheVariants.{Refused, Passes, Accepted}
use Rattle.reaching.specs.Mends.{grown, mended, comes, tried_with, tried}
use Rattle.explain.specs.Helps.{Help, better, best}
use Rattle.explain.specs.Laws.{Mends, HelpsMend}

-- ---- a trial

-- The trial gets past the fault: it passes or is accepted.
abbrev IsGood : Trial → Type 0
IsGood Refused = ⊥
IsGood Passes = Unit {0}
IsGood Accepted = Unit {0}

come_past : (unit : ℕ) (r : Reason) (at : ℕ) → IsGood (comes unit (Some (At r at))) → unit < at
come_past unit r at good = by_test (nat_lt unit at) refl good
  where
    by_test : (b : Bool) → nat_lt unit at ≡ b → IsGood (if b then Passes else Refused) → unit < at
    by_test true e k = ltb-true unit at e
    by_test false e k = absurd k

come_through : (unit : ℕ) (o : Option VerifyError) → comes unit o ≡ Accepted → o ≡ None
come_through unit None e = refl
come_through unit (Some Memory) e = absurd cc
come_through unit (Some (At r at)) e = by_test (nat_lt unit at) e
  where
    by_test : (b : Bool) → (if b then Passes else Refused) ≡ Accepted → Some (At r at) ≡ None
    by_test true k = absurd cc
    by_test false k = absurd cc

-- A trial that gets past the fault is what `judged` says of the edited program.
come_so : (program : List Insn) (unit : ℕ) → IsGood (tried_with program unit) → tried_with program unit ≡ comes unit (judged program)
come_so program unit good = by_test (nat_lt 0 (length (slots_of program)) && nat_le (length (slots_of program)) 4096) good
  where
    by_test : (b : Bool) → IsGood (if b then comes unit (judged program) else Refused) → (if b then comes unit (judged program) else Refused) ≡ comes unit (judged program)
    by_test true k = refl
    by_test false k = absurd k

of_trial : (program : List Insn) (place unit : ℕ) (edit : Edit) (trial : Trial) → trial ≡ tried edit place program (unit + grown edit) → IsGood trial → Mends program place unit edit trial
of_trial program place unit edit trial e good =
    let whole : List Insn = mended edit place 0 program in
    let behind : ℕ = (unit + grown edit) in
    let so : trial ≡ comes behind (judged whole) = e ∙ come_so whole behind (subst IsGood e good) in
    record {
      past = λ r at h. come_past behind r at (subst (λ (o : Option VerifyError). IsGood (comes behind o)) h (subst IsGood so good));
      accepted = λ h. come_through behind (judged whole) (sym so ∙ h);
    }

-- ---- the best of two

-- If there is a help, its edit gets the verifier past the fault.
abbrev Helps : List Insn → ℕ → ℕ → Option Help → Type 0
Helps program place unit None = Unit {0}
Helps program place unit (Some help) = Mends program place unit help.0 help.1

better_helps : (program : List Insn) (place unit : ℕ) (edit : Edit) (trial : Trial) (rest : Option Help) → trial ≡ tried edit place program (unit + grown edit) → Helps program place unit rest →
    Helps program place unit (better edit trial rest)
better_helps program place unit edit Accepted rest e h = of_trial program place unit edit Accepted e tt
better_helps program place unit edit Refused rest e h = h
better_helps program place unit edit Passes None e h = of_trial program place unit edit Passes e tt
better_helps program place unit edit Passes (Some (other, Accepted)) e h = h
better_helps program place unit edit Passes (Some (other, Passes)) e h = of_trial program place unit edit Passes e tt
better_helps program place unit edit Passes (Some (other, Refused)) e h = of_trial program place unit edit Passes e tt

best_helps : (program : List Insn) (place unit : ℕ) (edits : List Edit) → Helps program place unit (best program place unit edits)
best_helps program place unit [] = tt
best_helps program place unit (edit ∷ edits) =
    better_helps program place unit edit (tried edit place program (unit + grown edit)) (best program place unit edits) refl (best_helps program place unit edits)

pub helps_mend : HelpsMend
helps_mend program place unit edits edit trial e = subst (λ (o : Option Help). Helps program place unit o) e (best_helps program place unit edits)
