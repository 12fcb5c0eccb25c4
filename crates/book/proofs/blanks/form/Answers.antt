use Rattle.std.proofs.Common.{◌≡◌, ◌∙◌, ◌++◌, ◌∷◌, [], ◌+◌, arith, sym, ap, ℕ, append_assoc, append-nil}
use Rattle.std.specs.List.{flat_map, range_with_len}
use Rattle.std.specs.String.{string_bytes}
use Rattle.book.specs.Forms.{blank, place_lines, marked_text, head_text}
use Rattle.book.proofs.Gathering.{range_text}
use Rattle.book.proofs.blanks.form.Goals as goal

pub loop-more-init : goal.loop-more-init
loop-more-init c =
    let h : string_bytes c.in_ok-text.text ≡ head_text c.args.generals c.args.bound c.args.commander = simp append_assoc c.in_ok-text.ensures.ok in
    h ∙ sym (append-nil (head_text c.args.generals c.args.bound c.args.commander))

pub loop-more-preserved : goal.loop-more-preserved
loop-more-preserved c =
    rw (c.in_ok-push_blanks.ensures, c.loop-more.invariant, c.of-label.ensures) (range_text (λ k. place_lines blank c.args.generals k (c.args.commander ∷ [])) c.loop-more.more (head_text c.args.generals c.args.bound c.args.commander))

pub returns-clause-form : goal.returns-clause-form
unfolding marked_text
returns-clause-form c =
    let all : c.loop-more.more ≡ c.args.bound + 1 = omega arith in
    c.loop-more.invariant ∙ ap (λ (n : ℕ). head_text c.args.generals c.args.bound c.args.commander ++ flat_map (λ k. place_lines blank c.args.generals k (c.args.commander ∷ [])) (range_with_len 0 n)) all
