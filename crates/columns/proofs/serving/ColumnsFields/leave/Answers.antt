use Rattle.std.proofs.Common.{map, ◌∙◌}
use Rattle.filters.specs.declared.filter.Filter.{Filter}
use Rattle.columns.specs.Fields.{in_field, prefix_eq, range_eq, protocol_eq, flags_eq}
use Rattle.columns.proofs.OneField.{parted, merged, said_of_all, told_if, six}
use Rattle.columns.proofs.serving.ColumnsFields.leave.Goals as goal

pub returns-in_err-a : goal.returns-in_err-a
returns-in_err-a g c = λ before after filter ns s. absurd (c.in_err-a.ensures.left (map (in_field (λ (x : Filter). x.source) 0) before) (map (in_field (λ (x : Filter). x.source) 0) after) filter.source (ns 0) (parted (λ (x : Filter). x.source) 0 before after filter c.args.labels s.source))

pub returns-in_err-b : goal.returns-in_err-b
returns-in_err-b g c = λ before after filter ns s. absurd (c.in_err-b.ensures.left (map (in_field (λ (x : Filter). x.destination) 1) before) (map (in_field (λ (x : Filter). x.destination) 1) after) filter.destination (ns 1) (parted (λ (x : Filter). x.destination) 1 before after filter c.args.labels s.destination))

pub returns-in_err-c : goal.returns-in_err-c
returns-in_err-c g c = λ before after filter ns s. absurd (c.in_err-c.ensures.left (map (in_field (λ (x : Filter). x.source_port) 2) before) (map (in_field (λ (x : Filter). x.source_port) 2) after) filter.source_port (ns 2) (parted (λ (x : Filter). x.source_port) 2 before after filter c.args.labels s.source_port))

pub returns-in_err-d : goal.returns-in_err-d
returns-in_err-d g c = λ before after filter ns s. absurd (c.in_err-d.ensures.left (map (in_field (λ (x : Filter). x.destination_port) 3) before) (map (in_field (λ (x : Filter). x.destination_port) 3) after) filter.destination_port (ns 3) (parted (λ (x : Filter). x.destination_port) 3 before after filter c.args.labels s.destination_port))

pub returns-in_err-e : goal.returns-in_err-e
returns-in_err-e g c = λ before after filter ns s. absurd (c.in_err-e.ensures.left (map (in_field (λ (x : Filter). x.protocol) 4) before) (map (in_field (λ (x : Filter). x.protocol) 4) after) filter.protocol (ns 4) (parted (λ (x : Filter). x.protocol) 4 before after filter c.args.labels s.protocol))

pub returns-in_err-f : goal.returns-in_err-f
returns-in_err-f g c = λ before after filter ns s. absurd (c.in_err-f.ensures.left (map (in_field (λ (x : Filter). x.flags) 5) before) (map (in_field (λ (x : Filter). x.flags) 5) after) filter.flags (ns 5) (parted (λ (x : Filter). x.flags) 5 before after filter c.args.labels s.flags))

pub returns : goal.returns
returns g c = λ before after filter ns s.
    let ea = c.in_ok-a.ensures.left (map (in_field (λ (x : Filter). x.source) 0) before) (map (in_field (λ (x : Filter). x.source) 0) after) filter.source (ns 0) (parted (λ (x : Filter). x.source) 0 before after filter c.args.labels s.source) in
    let na = c.in_ok-a.a in
    let eb = c.in_ok-b.ensures.left (map (in_field (λ (x : Filter). x.destination) 1) before) (map (in_field (λ (x : Filter). x.destination) 1) after) filter.destination (ns 1) (parted (λ (x : Filter). x.destination) 1 before after filter c.args.labels s.destination) in
    let nb = c.in_ok-b.b in
    let ec = c.in_ok-c.ensures.left (map (in_field (λ (x : Filter). x.source_port) 2) before) (map (in_field (λ (x : Filter). x.source_port) 2) after) filter.source_port (ns 2) (parted (λ (x : Filter). x.source_port) 2 before after filter c.args.labels s.source_port) in
    let nc = c.in_ok-c.c in
    let ed = c.in_ok-d.ensures.left (map (in_field (λ (x : Filter). x.destination_port) 3) before) (map (in_field (λ (x : Filter). x.destination_port) 3) after) filter.destination_port (ns 3) (parted (λ (x : Filter). x.destination_port) 3 before after filter c.args.labels s.destination_port) in
    let nd = c.in_ok-d.d in
    let ee = c.in_ok-e.ensures.left (map (in_field (λ (x : Filter). x.protocol) 4) before) (map (in_field (λ (x : Filter). x.protocol) 4) after) filter.protocol (ns 4) (parted (λ (x : Filter). x.protocol) 4 before after filter c.args.labels s.protocol) in
    let ne = c.in_ok-e.e in
    let ef = c.in_ok-f.ensures.left (map (in_field (λ (x : Filter). x.flags) 5) before) (map (in_field (λ (x : Filter). x.flags) 5) after) filter.flags (ns 5) (parted (λ (x : Filter). x.flags) 5 before after filter c.args.labels s.flags) in
    let nf = c.in_ok-f.f in (
      record {
        source = merged (λ (x : Filter). x.source) 0 before after ea.1;
        destination = merged (λ (x : Filter). x.destination) 1 before after eb.1;
        source_port = merged (λ (x : Filter). x.source_port) 2 before after ec.1;
        destination_port = merged (λ (x : Filter). x.destination_port) 3 before after ed.1;
        protocol = merged (λ (x : Filter). x.protocol) 4 before after ee.1;
        flags = merged (λ (x : Filter). x.flags) 5 before after ef.1;
      },
      six na nb nc nd ne nf _ _ _ _ _ _
          (ea.0 ∙ said_of_all (λ (x : Filter). x.source) 0 before after prefix_eq filter)
          (eb.0 ∙ said_of_all (λ (x : Filter). x.destination) 1 before after prefix_eq filter)
          (ec.0 ∙ said_of_all (λ (x : Filter). x.source_port) 2 before after range_eq filter)
          (ed.0 ∙ said_of_all (λ (x : Filter). x.destination_port) 3 before after range_eq filter)
          (ee.0 ∙ said_of_all (λ (x : Filter). x.protocol) 4 before after protocol_eq filter)
          (ef.0 ∙ said_of_all (λ (x : Filter). x.flags) 5 before after flags_eq filter),
      record {
        source = told_if (λ (x : Filter). x.source) 0 before after prefix_eq g.A.Told.agrees _ _ filter na ea.0 c.in_ok-a.ensures.untold c.in_ok-a.ensures.asked;
        destination = told_if (λ (x : Filter). x.destination) 1 before after prefix_eq g.B.Told.agrees _ _ filter nb eb.0 c.in_ok-b.ensures.untold c.in_ok-b.ensures.asked;
        source_port = told_if (λ (x : Filter). x.source_port) 2 before after range_eq g.C.Told.agrees _ _ filter nc ec.0 c.in_ok-c.ensures.untold c.in_ok-c.ensures.asked;
        destination_port = told_if (λ (x : Filter). x.destination_port) 3 before after range_eq g.D.Told.agrees _ _ filter nd ed.0 c.in_ok-d.ensures.untold c.in_ok-d.ensures.asked;
        protocol = told_if (λ (x : Filter). x.protocol) 4 before after protocol_eq g.E.Told.agrees _ _ filter ne ee.0 c.in_ok-e.ensures.untold c.in_ok-e.ensures.asked;
        flags = told_if (λ (x : Filter). x.flags) 5 before after flags_eq g.F.Told.agrees _ _ filter nf ef.0 c.in_ok-f.ensures.untold c.in_ok-f.ensures.asked;
      },
    )
