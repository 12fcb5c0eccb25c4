use Rattle.tree.proofs.tree.Tree.space.Goals as goal

pub returns-clause-kind : goal.returns-clause-kind
returns-clause-kind c = rw (← c.self.view_is) (record { few = c.self.invariant.space.generals; commander = c.self.invariant.space.commander; general = c.self.invariant.space.general; lieutenant = c.self.invariant.space.lieutenant; small = c.self.invariant.small })

pub returns-clause-filled : goal.returns-clause-filled
returns-clause-filled c = rw (← c.self.view_is) (c.self.invariant.M, c.self.invariant.filled)
