use mathlib.Core.Path.{refl}
use Rattle.filter_laws.proofs.Known.{figures}
use Rattle.figures.proofs.figures_stand.Goals as goal

pub returns : goal.returns
returns c = record {
  stand = record {
    filter_list = figures;
    four_counters = refl;
    one_counter = refl;
  };
  answer = refl;
}
