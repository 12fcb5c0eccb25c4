use Rattle.trace.specs.SignedText.{signed_text}
use Rattle.trace.proofs.Differences.{first_difference, if_none, if_some, same_texts, started}
use Rattle.trace.proofs.signed_audit.signed_difference.Goals as goal

pub returns-clause-same : goal.returns-clause-same
returns-clause-same c =
    let first = c.new-comparison.result in
    let last = c.put_signed.new.sink in
    let written = signed_text c.args.chronicle.now in
    let w = started c.args.text.now first.text.now written first.same first.other first.failed _ last.failed c.new-comparison.ensures.text c.new-comparison.ensures.fresh c.put_signed.ensures in
    if_none c.difference.result (λ e. same_texts c.args.text.now last.text.now written last.same last.other last.failed w last.refused e) c.difference.ensures.none

pub returns-clause-differs : goal.returns-clause-differs
returns-clause-differs c =
    let first = c.new-comparison.result in
    let last = c.put_signed.new.sink in
    let written = signed_text c.args.chronicle.now in
    let w = started c.args.text.now first.text.now written first.same first.other first.failed _ last.failed c.new-comparison.ensures.text c.new-comparison.ensures.fresh c.put_signed.ensures in
    if_some c.difference.result (λ place e. first_difference c.args.text.now last.text.now written last.same last.other last.failed place w last.within last.differs last.refused e) c.difference.ensures.some
