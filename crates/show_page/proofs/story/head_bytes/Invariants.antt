use Rattle.std.proofs.Common.{◌≡◌, ◌≤◌, ◌+◌, drop, length}
use Rattle.show_page.specs.Story.{bytes_on, head_bytes}
use Rattle.show_page.proofs.story.head_bytes.Given as goal

abbrev pub invariant-loop-byte : goal.invariant-loop-byte
invariant-loop-byte l = (l.end ≡ l.byte-index) × (l.end + bytes_on l.within (drop l.byte-index l.text) ≡ head_bytes l.text)
