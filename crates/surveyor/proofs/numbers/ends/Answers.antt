use Rattle.std.proofs.Common.{None, Some, codes}
use Rattle.std.proofs.lemmas.Str.Pattern.{split_text_parts}
use Rattle.surveyor.proofs.NumberLemmas.{no_span_parted, no_span_whole}
use Rattle.surveyor.proofs.numbers.ends.Goals as goal

pub returns-in-Some-clause-refused : goal.returns-in-Some-clause-refused
returns-in-Some-clause-refused c =
    no_span_parted c.args.limit c.args.word.now c.both.result c.in-Some.low.now c.in-Some.high.now
    (split_text_parts (codes "..") c.args.word.now (Some (c.in-Some.low, c.in-Some.high)) c.in-Some.ensures.cases) c.both.ensures.refused

pub returns-in-None-clause-refused : goal.returns-in-None-clause-refused
returns-in-None-clause-refused c =
    no_span_whole c.args.limit c.args.word.now c.both-in-None.result
    (split_text_parts (codes "..") c.args.word.now None c.in-None.ensures.cases) c.both-in-None.ensures.refused
