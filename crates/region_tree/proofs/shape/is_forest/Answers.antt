use Rattle.region_tree.proofs.lemmas.Climbs.{every_shallow, acyclic_from}
use Rattle.region_tree.proofs.shape.is_forest.Goals as goal

pub returns : goal.returns
returns g c = (
  λ told.
      let shallow = every_shallow c.args.decls.now (c.are_subs_shallow.ensures.0 told) in
      record {
        space_ids = c.are_space_ids_distinct.ensures.0 c.if-not-are_space_ids_distinct.false;
        part_ids = c.are_part_ids_distinct.ensures.0 c.if-not-are_part_ids_distinct.false;
        steps = c.are_steps_distinct.ensures.0 c.if-not-are_steps_distinct.false;
        sub_spaces = c.are_sub_spaces_distinct.ensures.0 c.if-not-are_sub_spaces_distinct.false;
        wholes_declared = c.are_wholes_declared.ensures.0 c.if-not-are_wholes_declared.false;
        parts_declared = c.are_parts_declared.ensures.0 c.if-not-are_parts_declared.false;
        spaces_declared = c.are_spaces_declared.ensures.0 c.if-not-are_spaces_declared.false;
        acyclic = acyclic_from c.args.decls.now shallow;
        shallow = shallow;
      },
  λ forest. c.are_subs_shallow.ensures.1 (λ k d lt root n e. forest.shallow _ root n e),
)
