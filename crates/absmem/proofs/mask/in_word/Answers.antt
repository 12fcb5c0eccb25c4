use Rattle.std.proofs.Common.{◌≡◌, ◌+◌, ◌-◌, ◌*◌, ◌/◌, ◌%◌, ◌^◌, ◌<◌, ◌≤◌, ◌∙◌, ℕ, ap, arith}
use Rattle.std.specs.Prelude.{min}
use Rattle.absmem.proofs.Masks.{window_moved}
use Rattle.absmem.proofs.mask.in_word.Goals as goal

pub returns : goal.returns
returns c =
    let size = c.args.end - c.args.place in
    let up = c.args.place % 64 in
    let few : size < 64 = omega (arith, c.requires.few, c.requires.ordered) in
    let fits : size + up ≤ 64 = omega (arith, c.requires.ends, c.requires.ordered) in
    let top : size + up ≡ min (c.args.end - 64 * (c.args.place / 64)) 64 = omega (arith, c.requires.ends, c.requires.ordered) in
    let low : up ≡ c.args.place - 64 * (c.args.place / 64) = omega arith in
    window_moved size up few fits ∙ (ap (λ (n : ℕ). 2 ^ n - 2 ^ up) top
    ∙ ap (λ (n : ℕ). 2 ^ min (c.args.end - 64 * (c.args.place / 64)) 64 - 2 ^ n) low)
