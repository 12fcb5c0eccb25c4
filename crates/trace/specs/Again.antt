-- The sound text for a campaign, computed from a text that is not sound: the chronicle of the replay of the accesses
-- that the text lists (own).
use Rattle.std.specs.Prelude.{ℕ, List, Option, Some, None}
use Rattle.round.specs.Scenario.{Scenario}
use Rattle.world.specs.Chronicle.{Chronicle}
use Rattle.trace.specs.declared.version.Version.{Version}
use Rattle.trace.specs.Audit.{version_named}
use Rattle.trace.specs.Names.{chronicle_told}
use Rattle.trace.specs.SignedAudit.{signed_chronicle_told}
use Rattle.trace.specs.SignedText.{signed_text}
use Rattle.trace.specs.Text.{chronicle_text, text_in}

-- Returns the text of a chronicle in this version, or, if the first argument is `None`, in the version that its
-- campaign needs.
abbrev pub text_again : Option Version → Chronicle → List ℕ
text_again None c = chronicle_text c
text_again (Some version) c = text_in version c

-- Returns the sound text that replaces `t`: the chronicle of the replay, in the version that `t` names. If `t` names
-- none in which the campaign may be written, it is the version that the campaign needs.
abbrev pub told_again : Scenario → List ℕ → List ℕ
told_again s t = text_again (version_named s.rule t) (chronicle_told s t)

-- Returns the sound text that replaces `t` for a signed campaign: the chronicle of the replay.
abbrev pub signed_told_again : Scenario → List ℕ → List ℕ
signed_told_again s t = signed_text (signed_chronicle_told s t)
