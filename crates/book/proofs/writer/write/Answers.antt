use Rattle.std.proofs.Common.{◌≡◌, ◌∙◌, ◌++◌, ◌∷◌, [], ◌+◌, arith, sym, ap, ℕ, append-nil}
use Rattle.std.specs.List.{flat_map, range_with_len}
use Rattle.book.proofs.Gathering.{range_text}
use Rattle.book.specs.Written.{first_line, lines_from, written}
use Rattle.book.proofs.writer.write.Goals as goal

pub loop-more-init : goal.loop-more-init
loop-more-init g c = c.in_ok-text.ensures ∙ sym (append-nil (first_line c.args.generals c.args.bound c.args.commander c.args.rule))

pub loop-more-preserved : goal.loop-more-preserved
loop-more-preserved g c =
    rw (c.in_ok-push_labels.ensures, c.loop-more.invariant, c.of-label.ensures)
    (range_text (λ k. lines_from (g.M.Marks.marking c.args.marks.now) c.args.generals k (c.args.commander ∷ [])) c.loop-more.more (first_line c.args.generals c.args.bound c.args.commander c.args.rule))

pub returns : goal.returns
unfolding written
returns g c =
    let all : c.loop-more.more ≡ c.args.bound + 1 = omega arith in
    c.loop-more.invariant
    ∙ ap (λ (n : ℕ). first_line c.args.generals c.args.bound c.args.commander c.args.rule ++ flat_map (λ k. lines_from (g.M.Marks.marking c.args.marks.now) c.args.generals k (c.args.commander ∷ [])) (range_with_len 0 n)) all
