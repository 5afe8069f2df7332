use Rattle.std.proofs.Common.{refl}
use Rattle.field_tests.proofs.figures_stand.Goals as goal

pub returns : goal.returns
returns c = record {
  stand = record {
    takes_inside = refl;
    leaves_outside = refl;
    bit_beyond = refl;
    too_long = refl;
    end_included = refl;
    past_the_end = refl;
    upside_down = refl;
    as_wanted = refl;
    not_as_wanted = refl;
    repeated = refl;
    each_once = refl;
    written = refl;
  };
  answer = refl;
}
