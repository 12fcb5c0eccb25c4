-- The campaign that is printed is what `IsCampaignPrinted` states.
use Rattle.std.proofs.Common.{ℕ, ◌≡◌, List, subst, Option}
use Rattle.std.specs.Io.KnownBytes.{Appends}
use Rattle.surveys.specs.Family.{Family}
use Rattle.surveys.specs.Wording.{campaign_text}
use Rattle.surveyor.specs.Printed.{IsCampaignPrinted}
use Rattle.surveyor.specs.Words.{IsFamilyOf}
use Rattle.surveyor.specs.declared.task.OneCampaign.{OneCampaign}

pub campaign_printed : (c : OneCampaign) (f : Family) (text : List ℕ) (old new : Option (List ℕ)) → IsFamilyOf c.survey f → text ≡ campaign_text f c.seed → Appends old new text → IsCampaignPrinted c old new
campaign_printed c f text old new family is h = record { family = f; asked = family; written = subst (λ (l : List ℕ). Appends old new l) is h }
