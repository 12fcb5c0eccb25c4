use Rattle.std.proofs.Common.{◌≡◌, ◌++◌, drop}
use Rattle.cli_tasks.specs.Story.{story, story_on}
use Rattle.cli_tasks.proofs.story.story.Given as goal

abbrev pub invariant-loop-byte : goal.invariant-loop-byte
invariant-loop-byte l = l.text.items ++ story_on l.within (drop l.byte-index l.bytes) ≡ story l.bytes
