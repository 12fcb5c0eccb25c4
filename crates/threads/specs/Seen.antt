-- How contracts see a post, its posters and its collector (own).
use Rattle.std.specs.Prelude.{ℕ, List}
use Rattle.atomic_table.specs.Seated.{TableId}
use Rattle.round.specs.Letters.{Letter}

-- A post: its identity, and for how many letters it has room.
pub record PostSeen : Type 0 where
  pub table : TableId
  pub capacity : ℕ

-- A poster: the identity of its post, its general, and the letters that were posted with it, in order.
pub record PosterSeen : Type 0 where
  pub table : TableId
  pub general : ℕ
  pub posted : List Letter

-- A collector: the identity of its post, the letters that were taken with it, in order, and the number of the post's
-- generals.
pub record CollectorSeen : Type 0 where
  pub table : TableId
  pub taken : List Letter
  pub generals : ℕ

abbrev pub poster_seen : TableId → ℕ → List Letter → PosterSeen
poster_seen table general letters = record { table = table; general = general; posted = letters }

abbrev pub collector_seen : TableId → List Letter → ℕ → CollectorSeen
collector_seen table taken generals = record { table = table; taken = taken; generals = generals }
