use Rattle.std.proofs.Common.{get_or, refl, rules}
use Rattle.std.proofs.lemmas.List.Sums.{count_by-le-length}
use Rattle.std.proofs.lemmas.Option.{get_or_from_slice_get}
use Rattle.cs_graph.specs.Graph.{graph_of}
use Rattle.cs_graph.specs.Walk.{is_done}
use Rattle.cs_graph.specs.declared.walk.VisitState.TheVariants.{New, Done}
use Rattle.cs_graph.proofs.Marks.{row_at, read_at}
use Rattle.cs_graph.proofs.Frames.{next_refers, next_within, passed_more, passed_all}
use Rattle.cs_graph.proofs.walk.pass_done.Goals as goal

pub loop-frame-init : goal.loop-frame-init
loop-frame-init c =
    let number = c.args.frame.now.number in
    record {
      same = refl;
      row = row_at c.args.graph.now number number c.index-graph-frame.result c.as_slice-references.result.now refl c.requires.inside c.index-graph-frame.is c.as_slice-references.ensures.value;
      passed = c.requires.passed;
    }

pub bounds : goal.bounds
bounds c =
    let xs = c.as_slice-references.result.now in
    let f = c.loop-frame.frame in
    next_within (graph_of c.args.graph.now) f xs c.loop-frame.invariant.row c.args.marks.now c.requires.within c.requires.marked c.loop-frame-test.true

pub bounds-marks-next : goal.bounds-marks-next
bounds-marks-next c =
    let xs = c.as_slice-references.result.now in
    let f = c.loop-frame.frame in
    let l = next_within (graph_of c.args.graph.now) f xs c.loop-frame.invariant.row c.args.marks.now c.requires.within c.requires.marked c.loop-frame-test.true in
    search (rules, l)

pub offset_bounds-marks-next : goal.offset_bounds-marks-next
offset_bounds-marks-next c =
    let xs = c.as_slice-references.result.now in
    let f = c.loop-frame.frame in
    let l = next_within (graph_of c.args.graph.now) f xs c.loop-frame.invariant.row c.args.marks.now c.requires.within c.requires.marked c.loop-frame-test.true in
    search (rules, l)

pub returns-in_default : goal.returns-in_default
returns-in_default c =
    let xs = c.as_slice-references.result.now in
    let f = c.loop-frame.frame in
    record {
      same = c.loop-frame.invariant.same;
      passed = c.loop-frame.invariant.passed;
      stops = (next_refers (graph_of c.args.graph.now) f xs c.loop-frame.invariant.row c.loop-frame-test.true, λ d. c.in_default.not-Done d.height (get_or_from_slice_get c.args.marks.now (get_or xs f.passed 0) (Done d.height) New d.done));
    }

pub overflow_add-below : goal.overflow_add-below
overflow_add-below c =
    let M = c.args.marks.now in
    let xs = c.as_slice-references.result.now in
    let f = c.loop-frame.frame in
    let l = next_within (graph_of c.args.graph.now) f xs c.loop-frame.invariant.row M c.requires.within c.requires.marked c.loop-frame-test.true in
    let few = (c.requires.marked.settled (get_or xs f.passed 0) c.in-Done.below (read_at M (get_or xs f.passed 0) New (Done c.in-Done.below) l c.in-Done.is)).few in
    let most = count_by-le-length is_done M in
    search (rules, few, most)

pub loop-frame-preserved : goal.loop-frame-preserved
loop-frame-preserved c =
    let M = c.args.marks.now in
    let xs = c.as_slice-references.result.now in
    let f = c.loop-frame.frame in
    let l = next_within (graph_of c.args.graph.now) f xs c.loop-frame.invariant.row M c.requires.within c.requires.marked c.loop-frame-test.true in record {
      same = c.loop-frame.invariant.same;
      row = c.loop-frame.invariant.row;
      passed = passed_more (graph_of c.args.graph.now) f xs c.loop-frame.invariant.row M c.in-Done.below c.max-frame.result c.requires.marked c.loop-frame-test.true (read_at M (get_or xs f.passed 0) New (Done c.in-Done.below) l c.in-Done.is) c.loop-frame.invariant.passed c.max-frame.ensures;
    }

pub returns : goal.returns
returns c =
    let xs = c.as_slice-references.result.now in
    let f = c.loop-frame.frame in
    record {
      same = c.loop-frame.invariant.same;
      passed = c.loop-frame.invariant.passed;
      stops = passed_all (graph_of c.args.graph.now) f xs c.loop-frame.invariant.row c.args.marks.now c.loop-frame-test.false c.loop-frame.invariant.passed;
    }
