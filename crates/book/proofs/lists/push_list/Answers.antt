use Rattle.std.proofs.Common.{◌≡◌, ◌++◌}
use Rattle.std.specs.Prelude.{codes}
use Rattle.std.specs.Fmt.{decimal}
use Rattle.std.specs.String.{string_bytes}
use Rattle.std.proofs.lemmas.Result.{on_ok_weaker}
use Rattle.book.proofs.TextLemmas.{heard_whole}
use Rattle.book.proofs.lists.push_list.Goals as goal

pub returns-in-Some : goal.returns-in-Some
returns-in-Some c = λ w is. on_ok_weaker c.write.result
    (λ e.
    let k : string_bytes c.write.new.self ≡ string_bytes c.args.lines.now ++ (c.args.front.now ++ (decimal c.args.last ++ (codes ": received " ++ (decimal c.in-Some.said ++ (c.args.parts.now ++ (codes ": " ++ (c.args.words.now ++ (decimal c.args.order ++ codes "\n")))))))) = e in
    heard_whole (string_bytes c.args.lines.now) (string_bytes c.write.new.self) c.args.front.now c.args.parts.now c.args.words.now w c.args.last c.in-Some.said c.args.order c.args.told c.in-Some.is is k)
    c.write.ensures.bytes
