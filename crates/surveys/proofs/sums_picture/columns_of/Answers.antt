use Rattle.std.proofs.Common.{ℕ, ◌≡◌, ◌≤◌, List, [], ◌∷◌, ap, ◌∙◌, drop, length, max, min, sym, arith}
use Rattle.std.proofs.lemmas.List.{drop_all}
use Rattle.surveys.specs.declared.columns.Columns.{Columns}
use Rattle.surveys.specs.declared.group.Group.{Group}
use Rattle.surveys.specs.Pictures.{columns_of, end_of, least}
use Rattle.surveys.proofs.sums_picture.columns_of.Goals as goal

least_small : (groups : List Group) → least groups ≤ 14
least_small [] = omega arith
least_small (g ∷ groups) = let i = least_small groups in omega arith

pub loop-group-init : goal.loop-group-init
loop-group-init c = let small = least_small c.args.groups.now in (omega arith, omega arith, omega arith)

pub returns : goal.returns
returns c =
    let groups = c.args.groups.now in
    let at = c.loop-group-test.false in
    let none : drop c.loop-group.group-index groups ≡ [] = drop_all c.loop-group.group-index groups (omega arith) in
    let least_so : min 14 c.loop-group.first ≡ least groups = ap (λ (xs : List Group). min (least xs) c.loop-group.first) (sym none) ∙ c.loop-group.invariant.0 in
    let end_so : max 0 c.loop-group.end ≡ end_of groups = ap (λ (xs : List Group). max (end_of xs) c.loop-group.end) (sym none) ∙ c.loop-group.invariant.1 in
    let small = c.loop-group.invariant.2 in
    let first : c.loop-group.first ≡ least groups = omega arith in
    let end : c.loop-group.end ≡ end_of groups = omega arith in
    ap (λ (x : ℕ). let cs : Columns = record { first = x; end = c.loop-group.end } in cs) first ∙ ap (λ (x : ℕ). let cs : Columns = record { first = least groups; end = x } in cs) end
