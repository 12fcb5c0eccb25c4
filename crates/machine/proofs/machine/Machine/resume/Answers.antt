-- The reply is given to the program as its request requires.
use Rattle.semantics.specs.Replies.{words_in}
use Rattle.machine.proofs.AdvanceLemmas.{answer_reached, answer_of_run}
use Rattle.machine.proofs.machine.Machine.resume.Goals as goal

pub returns-clause-reached : goal.returns-clause-reached
returns-clause-reached c = λ program context answers reached asks.
    answer_reached program context answers c.args.self.now c.replied.new.self c.args.request.now (words_in c.args.reply.now) reached asks c.requires.fits c.replied.ensures.relay c.replied.ensures.state

pub returns-clause-of_run : goal.returns-clause-of_run
returns-clause-of_run c = λ program context ask.
    answer_of_run program context c.args.self.now c.replied.new.self c.args.request.now (words_in c.args.reply.now) ask c.requires.fits c.replied.ensures.relay c.replied.ensures.state
