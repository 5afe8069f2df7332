-- The figures are computed.
use Rattle.std.proofs.Common.{refl}
use Rattle.filter_laws.specs.Figures.{Figures}

pub figures : Figures
figures = record {
  prefix_in = refl;
  prefix_out = refl;
  prefix_number = refl;
  prefix_detail = refl;
  range_in = refl;
  range_out = refl;
  range_number = refl;
  range_detail = refl;
  mask_in = refl;
  mask_out = refl;
  order_number = refl;
  order_detail = refl;
  pairs_by_ports = refl;
  pairs_in_turn = refl;
  replies = refl;
}
