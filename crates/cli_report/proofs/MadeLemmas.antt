-- The program that a source gives, by the result of making it.
use Rattle.std.proofs.Common.{ℕ, ◌≡◌, List, [], inr, refl, subst, sym}
use Rattle.std.specs.Prelude.{Result, Ok, Err, IfOk, Option, Some, None}
use Rattle.std.specs.declared.alloc.AllocError.{AllocError}
use Rattle.insn.specs.declared.insn.Insn.{Insn}
use Rattle.scenario.specs.Flaws.{OrMemory}
use Rattle.scenario.specs.Seen.{Makes}
use Rattle.scenario.specs.Tables.{Source}
use Rattle.scenario.specs.Reading.{IsProgramOf}
use Rattle.scenario.specs.declared.fault.ScenarioError.{ScenarioError}
use Rattle.scenario.specs.declared.fault.ScenarioError.TheVariants.{Toml, Unknown, At, Program, Memory}
use Rattle.cli_report.specs.Judged.{GivesProgram, IsExplainedOf, IsMadeBy}
use Rattle.cli_report.specs.Keys.{Found}

pub made_is_had : (g : ℕ) (source : Source) (made : Result (List Insn) ScenarioError)
    (answer : Result (Option (List Insn)) AllocError) → OrMemory (Makes g source) made → IsMadeBy made answer
    → IfOk answer (GivesProgram source)
made_is_had g source (Ok program) (Ok (Some own)) makes is = subst (IsProgramOf source) (sym is) makes
made_is_had g source (Ok program) (Ok None) makes is = absurd is
made_is_had g source (Ok program) (Err e) makes is = tt
made_is_had g source (Err (Program h fault)) (Ok None) makes is = (fault, makes.1)
made_is_had g source (Err (Unknown at key)) (Ok None) makes is = absurd makes
made_is_had g source (Err (At fault place)) (Ok None) makes is = absurd makes
made_is_had g source (Err Toml) (Ok None) makes is = absurd makes
made_is_had g source (Err Memory) (Ok None) makes is = absurd (is refl)
made_is_had g source (Err error) (Ok (Some own)) makes is = absurd is
made_is_had g source (Err error) (Err e) makes is = tt

pub unmade_is_silent : (source : Source) (line : Option Found) (told : List ℕ) → GivesProgram source None → told ≡ []
    → IsExplainedOf source line told
unmade_is_silent source line told has e = inr (has.0, has.1, e)
