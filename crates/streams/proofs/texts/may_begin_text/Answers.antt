use Rattle.std.proofs.lemmas.Bool.{both_ways}
use Rattle.streams.proofs.CutTexts.{answered}
use Rattle.streams.proofs.texts.may_begin_text.Goals as goal

pub returns-in-Err-clause-begins : goal.returns-in-Err-clause-begins
returns-in-Err-clause-begins c =
    answered c.args.front.now _ _ c.error_len.result c.is_none.result c.in-Err.ensures.cases.1 c.in-Err.ensures.fault c.error_len.ensures c.is_none.ensures

pub returns-in-Err-clause-no_text : goal.returns-in-Err-clause-no_text
returns-in-Err-clause-no_text c is rest text =
    let begins = answered c.args.front.now _ _ c.error_len.result c.is_none.result c.in-Err.ensures.cases.1 c.in-Err.ensures.fault c.error_len.ensures c.is_none.ensures in
    both_ways c.is_none.result is (begins.1 (rest, text))
