use Rattle.surveys.proofs.Rereading.{words_of}
use Rattle.surveys.proofs.line_reader.line_told.Goals as goal

pub returns : goal.returns
returns c = λ f h is. c.found_by.ensures f h (
    words_of f c.args.bytes.now c.member.result.0.now c.member.result.1.now c.member-2.result.0.now c.member-2.result.1.now c.member-3.result.0.now c.member-3.result.1.now c.member-4.result.0.now c.member-4.result.1.now
    c.member-5.result.0.now c.member-5.result.1.now c.member-6.result.0.now c.member-6.result.1.now c.member-7.result.0.now c.member-7.result.1.now c.member-8.result.0.now c.member-8.result.1.now h is
    (c.member.ensures.word, c.member.ensures.rest) (c.member-2.ensures.word, c.member-2.ensures.rest) (c.member-3.ensures.word, c.member-3.ensures.rest) (c.member-4.ensures.word, c.member-4.ensures.rest)
    (c.member-5.ensures.word, c.member-5.ensures.rest) (c.member-6.ensures.word, c.member-6.ensures.rest) (c.member-7.ensures.word, c.member-7.ensures.rest) (c.member-8.ensures.word, c.member-8.ensures.rest))
