-- The reason for a copy, with the number of its register.
use Rattle.std.proofs.Common.{◌≡◌, ◌∙◌}
use Rattle.explain.proofs.rules.put_tells.Goals as goal

pub returns-in-Copied : goal.returns-in-Copied
returns-in-Copied c =
    let number : c.from-in-Copied.result ≡ c.in-Copied.dst = c.from-in-Copied.ensures ∙ c.number.ensures.same in
    rw (c.in-Copied.is) (rw number at c.put_between.ensures)
