use Rattle.std.proofs.Common.{◌≡◌, ◌++◌, ◌∙◌, ℕ, List, append_assoc, append-nil, codes, sym, []}
use Rattle.std.specs.Fmt.{decimal}
use Rattle.cli_tasks.proofs.rule_certificates.uncertified.Goals as goal

-- A text that is joined from the left, and nothing after it.
joined : (a b c d e : List ℕ) → a ++ (b ++ (c ++ (d ++ e))) ≡ a ++ b ++ c ++ d ++ e ++ []
joined a b c d e = sym (append-nil (a ++ b ++ c ++ d ++ e) ∙ (append_assoc (a ++ b ++ c) d e
    ∙ (append_assoc (a ++ b) c (d ++ e) ∙ append_assoc a b (c ++ (d ++ e)))))

pub loop-order-init : goal.loop-order-init
loop-order-init c = c.in_ok-line.ensures.ok
    ∙ joined (codes "uncertified majority ") (decimal c.args.lost.now.majority) (codes " result ") (decimal c.args.lost.now.returned) (codes " list")
