use Rattle.semantics.proofs.SafetyLaws.{sound_of_safe, safe_of_sound}
use Rattle.semantics.proofs.laws.sound_is_safe_at_entry.Goals as goal

pub returns : goal.returns
returns c = record { sound = sound_of_safe; safe = safe_of_sound }
