use Rattle.std.proofs.Common.{[], replicate, None, refl}
use Rattle.classifier.proofs.classifier.Classifier.make.Goals as goal

pub returns : goal.returns
returns g c = record {
  stands = record {
    table = c.empty.ensures;
    entries = [];
    filters = refl;
    parts = record {
      labels = c.new.ensures;
      fields = c.make-columns.ensures.stands;
      nodes = c.make-network.ensures.stands;
      first = tt;
      spare = record { table = record { slots = replicate 96 None; size = refl }; part = c.args.stores.0 };
    };
  };
  engines = c.make-columns.ensures.asked;
  stores = c.make-network.ensures.asked;
  order = c.make-network.ensures.order;
}
