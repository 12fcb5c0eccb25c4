use Rattle.std.proofs.Common.{◌+◌, ◌*◌, length}
use Rattle.lies.proofs.message.+message.Given as goal

abbrev pub decreases-message : goal.decreases-message
decreases-message g l = 2 * length l.rest.now

abbrev pub decreases-message_by : goal.decreases-message_by
decreases-message_by g l = 2 * length l.later.now + 1
