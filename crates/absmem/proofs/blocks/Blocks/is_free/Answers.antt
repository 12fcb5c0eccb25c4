use Rattle.std.proofs.Common.{◌≡◌, List, sym, subst}
use Rattle.std.proofs.lemmas.Bool.{eqb-true, eq-eqb}
use Rattle.absmem.specs.declared.spill.Spill.{Spill}
use Rattle.absmem.specs.declared.spill.Spill.TheVariants.{Free}
use Rattle.absmem.specs.Known.{spill_at}
use Rattle.absmem.proofs.HoldingBits.{free_where_zero, zero_where_free}
use Rattle.absmem.proofs.blocks.Blocks.is_free.Goals as goal

pub returns-clause-free : goal.returns-clause-free
returns-clause-free c = (
  λ zero b lt. subst (λ (spills : List Spill). spill_at spills b ≡ Free) c.self.view_is (free_where_zero c.self.inside.holding c.self.inside.spills c.self.invariant (eqb-true c.self.inside.holding 0 zero) b lt),
  λ free. eq-eqb c.self.inside.holding 0 (zero_where_free c.self.inside.holding c.self.inside.spills c.self.invariant
      (λ b lt. subst (λ (spills : List Spill). spill_at spills b ≡ Free) (sym c.self.view_is) (free b lt))),
)
