-- One general's letter is written.
use Rattle.std.proofs.Common.{◌≡◌, ℕ, ◌++◌, ◌∙◌, refl, sym, ap, subst, Option, Some, None, arith}
use Rattle.std.specs.Prelude.{slice_get}
use Rattle.std.proofs.lemmas.Option.{slice_get_past}
use Rattle.round.specs.Runs.{IsLetter}
use Rattle.round.specs.Running.{letter_left}
use Rattle.world.specs.Part.{Progress}
use Rattle.world.specs.Closing.{LetterDraft, Begun, Whole, Missing, letter_from}
use Rattle.world.proofs.Drafting.{read_at, left_row}
use Rattle.world.proofs.Holding.{none_written}
use Rattle.world.proofs.Listing.{set-other}
use Rattle.world.proofs.letters.write.Goals as goal

pub leave-requires-clause-run : goal.leave-requires-clause-run
leave-requires-clause-run c a acting =
    let g = c.args.general in
    let there = read_at c.args.drafts.now.items g c.from-place.result c.index_mut.result.now (Begun c.in-Begun.transcript) c.from-place.ensures c.requires.there c.index_mut.ensures.value (sym c.replace.ensures.value ∙ c.in-Begun.is) in
    let at = read_at c.args.parts.now.items g c.from-place.result c.index_mut-then-place-len.result.now c.index_mut-then-place-len.result.now c.from-place.ensures (let l = c.if-place-len.true in let n = c.len.ensures in let e = c.from-place.ensures in let o = c.args.parts.now.ok.0 in omega arith) c.index_mut-then-place-len.ensures.value refl in
    subst (λ (n : ℕ). IsLetter (letter_left n c.args.round c.in-Begun.transcript a)) (sym c.from.ensures) (c.requires.run c.in-Begun.transcript a there (at ∙ ap (λ (p : Progress). Some p) acting))

pub returns-then-place-len-clause-list : goal.returns-then-place-len-clause-list
returns-then-place-len-clause-list c =
    let g = c.args.general in
    let there = read_at c.args.drafts.now.items g c.from-place.result c.index_mut.result.now (Begun c.in-Begun.transcript) c.from-place.ensures c.requires.there c.index_mut.ensures.value (sym c.replace.ensures.value ∙ c.in-Begun.is) in
    let at = read_at c.args.parts.now.items g c.from-place.result c.index_mut-then-place-len.result.now c.index_mut-then-place-len.result.now c.from-place.ensures (let l = c.if-place-len.true in let n = c.len.ensures in let e = c.from-place.ensures in let o = c.args.parts.now.ok.0 in omega arith) c.index_mut-then-place-len.ensures.value refl in
    left_row g c.from.result c.args.round c.args.drafts.now.items c.args.parts.now.items (Begun c.in-Begun.transcript) c.index_mut-then-place-len.result.now c.args.list.now.items c.leave.new.list.items c.leave.ensures.list c.from.ensures there at

pub returns-then-place-len-clause-drafts : goal.returns-then-place-len-clause-drafts
returns-then-place-len-clause-drafts c j ne = set-other c.args.drafts.now.items c.from-place.result j c.replace.new.dest (λ e. ne (e ∙ c.from-place.ensures))

pub returns-then-place-len-clause-parts : goal.returns-then-place-len-clause-parts
returns-then-place-len-clause-parts c j ne = set-other c.args.parts.now.items c.from-place.result j c.leave.new.part (λ e. ne (e ∙ c.from-place.ensures))

pub returns-else-place-len-clause-list : goal.returns-else-place-len-clause-list
returns-else-place-len-clause-list c =
    let g = c.args.general in
    let there = read_at c.args.drafts.now.items g c.from-place.result c.index_mut.result.now (Begun c.in-Begun.transcript) c.from-place.ensures c.requires.there c.index_mut.ensures.value (sym c.replace.ensures.value ∙ c.in-Begun.is) in
    let past : slice_get c.args.parts.now.items g ≡ None = slice_get_past c.args.parts.now.items g (let l = c.if-place-len.false in let n = c.len.ensures in let e = c.from-place.ensures in let o = c.args.parts.now.ok.0 in omega arith) in
    none_written c.args.list.now.items (letter_from g c.args.round (slice_get c.args.drafts.now.items g) (slice_get c.args.parts.now.items g)) (λ i. letter_from g c.args.round (there i) (past i))

pub returns-else-place-len-clause-drafts : goal.returns-else-place-len-clause-drafts
returns-else-place-len-clause-drafts c j ne = set-other c.args.drafts.now.items c.from-place.result j c.replace.new.dest (λ e. ne (e ∙ c.from-place.ensures))

pub returns-in-Whole-clause-list : goal.returns-in-Whole-clause-list
returns-in-Whole-clause-list c =
    let g = c.args.general in
    let there = read_at c.args.drafts.now.items g c.from-place.result c.index_mut.result.now (Whole c.in-Whole.letter) c.from-place.ensures c.requires.there c.index_mut.ensures.value (sym c.replace.ensures.value ∙ c.in-Whole.is) in
    c.push_reserved.ensures.items ∙ ap (λ (o : Option LetterDraft). c.args.list.now.items ++ letter_from g c.args.round o (slice_get c.args.parts.now.items g)) (sym there)

pub returns-in-Whole-clause-drafts : goal.returns-in-Whole-clause-drafts
returns-in-Whole-clause-drafts c j ne = set-other c.args.drafts.now.items c.from-place.result j c.replace.new.dest (λ e. ne (e ∙ c.from-place.ensures))

pub returns-in-Missing-clause-list : goal.returns-in-Missing-clause-list
returns-in-Missing-clause-list c =
    let g = c.args.general in
    let there = read_at c.args.drafts.now.items g c.from-place.result c.index_mut.result.now Missing c.from-place.ensures c.requires.there c.index_mut.ensures.value (sym c.replace.ensures.value ∙ c.in-Missing.is) in
    none_written c.args.list.now.items (letter_from g c.args.round (slice_get c.args.drafts.now.items g) (slice_get c.args.parts.now.items g)) (ap (λ (o : Option LetterDraft). letter_from g c.args.round o (slice_get c.args.parts.now.items g)) there)
