-- Agreement by a rule program that keeps majorities (TOPLAS 1982, Theorem 1, for campaigns with two orders). Each
-- statement is the contract of a function of this crate.
use Rattle.std.specs.Prelude.{ℕ, ◌+◌, ◌<◌, ◌≤◌, ◌≡◌, Bool, false, List, [], ◌∷◌, count_by}
use Rattle.insn.specs.declared.insn.Insn.{Insn}
use Rattle.label.specs.Labels.{generals}
use Rattle.label.specs.Oral.{Messages, taken, om, IsFaithful, Agree}
use Rattle.bounds.specs.Tolerance.{IsTolerable}
use Rattle.rule_program.specs.Evaluation.{evaluated}
use Rattle.rule_program.specs.Majorities.{KeepsMajorities}

-- States that OM(m) with the rule f tolerates k traitors among n generals who take only the orders 0 and 1: the loyal
-- lieutenants agree if at most k generals are traitors and all others are faithful, whatever the traitors send.
abbrev pub ToleratesOnTwoOrders : (List ℕ → ℕ) → ℕ → ℕ → ℕ → Type 0
ToleratesOnTwoOrders f n m k =
    (c order : ℕ) (traitor : ℕ → Bool) (M : Messages) → c < n → count_by traitor (generals n) ≤ k →
    ((w : List ℕ) (p : ℕ) → taken M w p < 2) →
    ((g : ℕ) → g < n → traitor g ≡ false → IsFaithful n c m order M g) →
    Agree n c order traitor (om f n M m (c ∷ []))

-- States that a program that keeps the majorities of all lists of at most `most` orders suffices for agreement among at
-- most `most` + 1 generals, if there are few enough traitors.
abbrev pub CertifiedRulesAgree : Type 0
CertifiedRulesAgree =
    (program : List Insn) (most n m k : ℕ) → KeepsMajorities most (evaluated program) → n ≤ most + 1 →
    IsTolerable n m k → ToleratesOnTwoOrders (evaluated program) n m k

-- States that a program combines every list to 0 or 1.
abbrev pub ProgramsReturnTwoOrders : Type 0
ProgramsReturnTwoOrders = (program : List Insn) (orders : List ℕ) → evaluated program orders < 2
