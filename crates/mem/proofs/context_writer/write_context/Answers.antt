use Rattle.std.proofs.Common.{◌≡◌, ◌-◌, [], ◌∷◌, length, refl, arith}
use Rattle.std.specs.Vec.{vec_len}
use Rattle.mem.proofs.Spelling.{header_numbers, context_done}
use Rattle.mem.proofs.context_writer.write_context.Goals as goal

pub returns-clause-bytes : goal.returns-clause-bytes
returns-clause-bytes c =
    let a = c.args in
    let n = length a.values.now in
    let coded : a.shape.generals ∷ c.from.result ∷ a.shape.general ∷ a.shape.commander ∷ a.shape.round ∷ n ∷ (a.shape.generals - a.shape.round) ∷ 0 ∷ [] ≡ header_numbers a.shape a.bound n =
    (λ i. a.shape.generals ∷ c.from.ensures i ∷ a.shape.general ∷ a.shape.commander ∷ a.shape.round ∷ n ∷ (a.shape.generals - a.shape.round) ∷ 0 ∷ []) in
    context_done (header_numbers a.shape a.bound n) (a.shape.generals ∷ c.from.result ∷ a.shape.general ∷ a.shape.commander ∷ a.shape.round ∷ n ∷ (a.shape.generals - a.shape.round) ∷ 0 ∷ []) a.values.now c.clear.new.self.items c.spell.new.bytes.items c.spell-2.new.bytes.items c.resize.new.self.items (vec_len c.spell-2.new.bytes)
    refl c.requires.few coded c.clear.ensures.items c.spell.ensures.bytes c.spell-2.ensures.bytes (let o = c.spell-2.new.bytes.ok in omega arith) c.in-Ok.ensures.items
