use Rattle.std.proofs.Common.{◌++◌, codes}
use Rattle.std.specs.String.{string_bytes}
use Rattle.surveys.specs.Heads.{line_word, orders_text}
use Rattle.surveys.proofs.LineLemmas.{four_pieces, named}
use Rattle.surveys.proofs.heading.put_middle.Goals as goal

pub returns : goal.returns
returns c =
    let g = c.args.grid in
    let m = c.args.manner.now in
    let p = c.args.patience.now in
    let o = string_bytes c.args.out.now in
    let q = string_bytes c.put_word.new.out in
    let s = string_bytes c.put_word-2.new.out in
    let r = string_bytes c.put_orders.new.out in
    let t = string_bytes c.put_word-3.new.out in
    four_pieces o q s r t (codes ",\"line\":" ++ line_word g) (codes ",\"manner\":" ++ m) (orders_text c.args.orders) (codes ",\"patience\":" ++ p)
    (named o q (codes ",\"line\":") (line_word g) (rw c.line_word.ensures at c.in_ok-put_word.ensures))
    (named q s (codes ",\"manner\":") m c.in_ok-put_word-2.ensures)
    c.in_ok-put_orders.ensures
    (named r t (codes ",\"patience\":") p c.in_ok-put_word-3.ensures)
