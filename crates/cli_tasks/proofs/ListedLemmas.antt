-- A campaign that cannot be read is also rejected when it is read together with a list of accesses.
use Rattle.std.proofs.Common.{◌≡◌, List, ℕ, subst, sym}
use Rattle.campaign_schedules.specs.Arranged.{IfFault, IsUnarranged}
use Rattle.campaign_schedules.specs.declared.fault.AccessesError.{AccessesError}
use Rattle.campaign_schedules.specs.declared.fault.AccessesError.TheVariants as accesses
use Rattle.scenario.specs.Reading.{TellsAny}
use Rattle.scenario.specs.declared.messages.Campaign.{Campaign}
use Rattle.cli_tasks.specs.CampaignRefusals.{RefusesListed}
use Rattle.cli_tasks.specs.Explained.{scenario_of}
use Rattle.cli_tasks.specs.Refusals.{RefusesCampaign, RefusesText, accesses_refusal}
use Rattle.cli_tasks.specs.Retracing.{kind_of}
use Rattle.cli_tasks.specs.declared.refusal.InputRefusal.{InputRefusal}
use Rattle.cli_tasks.specs.declared.refusal.InputRefusal.TheVariants.{Codec, Object, Verifier, Assembly, Table, Scenario, Setting, Trace, Threads, Accesses, Tolerated, RuleCall, LongSearch, LongScenario, Stranger, NotText, Memory}

pub of_campaign : (list bytes : List ℕ) (refusal : InputRefusal) → RefusesText RefusesCampaign bytes refusal → RefusesText (RefusesListed list) bytes refusal
of_campaign list bytes (Codec error) refuses = refuses
of_campaign list bytes (Object fault) refuses = refuses
of_campaign list bytes (Verifier fault) refuses = refuses
of_campaign list bytes (Assembly error) refuses = refuses
of_campaign list bytes (Table error) refuses = refuses
of_campaign list bytes (Scenario error) refuses = refuses
of_campaign list bytes (Setting error) refuses = refuses
of_campaign list bytes (Trace error) refuses = refuses
of_campaign list bytes (Threads error) refuses = refuses
of_campaign list bytes (Accesses fault) refuses = absurd refuses
of_campaign list bytes Tolerated refuses = absurd refuses
of_campaign list bytes (RuleCall unit) refuses = absurd refuses
of_campaign list bytes (LongSearch steps) refuses = absurd refuses
of_campaign list bytes LongScenario refuses = absurd refuses
of_campaign list bytes (Stranger general generals) refuses = refuses
of_campaign list bytes NotText refuses = refuses
of_campaign list bytes Memory refuses = refuses

pub of_accesses : (list bytes : List ℕ) (c : Campaign) (error : AccessesError) (refusal : InputRefusal) → TellsAny bytes c → IfFault error (IsUnarranged (kind_of c) (scenario_of c) list)
    → refusal ≡ accesses_refusal error → RefusesText (RefusesListed list) bytes refusal
of_accesses list bytes c (accesses.At fault) refusal tells unarranged is = subst (λ (r : InputRefusal). RefusesText (RefusesListed list) bytes r) (sym is) (c, tells, unarranged)
of_accesses list bytes c accesses.Memory refusal tells unarranged is = subst (λ (r : InputRefusal). RefusesText (RefusesListed list) bytes r) (sym is) tt
