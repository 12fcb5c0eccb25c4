-- Families that draw the same campaign from each seed.
use Rattle.std.proofs.Common.{ℕ, ◌+◌, ◌≡◌, map}
use Rattle.std.specs.Prelude.{◌%◌}
use Rattle.surveys.specs.declared.adversary.Adversary.{Adversary}
use Rattle.surveys.specs.Draws.{draw}
use Rattle.surveys.specs.Family.{Family}
use Rattle.surveys.specs.Plotting.{bound_of, chosen, commander_of, count_of, generals_of, plot_of}
use Rattle.surveys.specs.Breaches.{IsSameAs, narrowed, only}

pub same_plots : (f : Family) (n m t : ℕ) (a : Adversary) → IsSameAs f.adversary a → plot_of (record { generals = only n; bound = only m; traitors = only t; commander = f.commander; orders = f.orders; grid = f.grid; manner = f.manner; patience = f.patience; adversary = a }) ≡ plot_of (narrowed f n m t)
unfolding plot_of
same_plots f n m t a h = λ i seed. record {
  generals = generals_of (narrowed f n m t) seed;
  bound = bound_of (narrowed f n m t) seed;
  commander = commander_of (narrowed f n m t) (generals_of (narrowed f n m t) seed);
  order = draw seed 3 % (f.orders + 1);
  manner = f.manner;
  patience = f.patience;
  given = h.given i;
  traitors = map (λ g. record { general = g; counts = h.counts i; lies = h.lies f.manner f.orders (commander_of (narrowed f n m t) (generals_of (narrowed f n m t) seed)) seed (generals_of (narrowed f n m t) seed) g i }) (chosen seed 0 (generals_of (narrowed f n m t) seed) (count_of (narrowed f n m t) seed));
}
