use Rattle.std.proofs.Common.{◌+◌, refl, sym, ap, ◌∙◌}
use Rattle.pf_maps.proofs.SpecLemmas.{a_level, all_behind, by_levels, group_added, group_there, leaf_there, no_colon, no_level, no_members}
use Rattle.pf_maps.specs.Clauses.Adding.{behind}
use Rattle.pf_maps.specs.Specification.{groups_at}
use Rattle.pf_maps.proofs.specification.+nodes.Goals as goal

pub add_group-returns-then-levels-eq0 : goal.add_group-returns-then-levels-eq0
add_group-returns-then-levels-eq0 t c = rw (c.if-levels-eq0.true, no_level c.args.group c.args.name.now) refl

pub add_group-returns-in_default : goal.add_group-returns-in_default
add_group-returns-in_default t c =
    ap (behind c.args.nodes.now) (a_level c.args.levels c.args.group c.args.name.now c.if-levels-eq0.false
    ∙ no_members _ c.args.group c.args.name.now (sym c.in_ok-texts.ensures ∙ c.in_default.is))

pub add_group-returns : goal.add_group-returns
add_group-returns t c =
    rw (
      a_level c.args.levels c.args.group c.args.name.now c.if-levels-eq0.false,
      group_added _ c.args.group c.args.name.now c.args.nodes.now c.in-Some.texts (sym c.in_ok-texts.ensures ∙ c.in-Some.is),
    ) (rw (c.in_ok-push.ensures.ok, c.node.ensures, c.len.ensures, c.as_slice.ensures) at c.add_members.ensures)

pub add_nodes-returns-in_default : goal.add_nodes-returns-in_default
add_nodes-returns-in_default t c =
    ap (behind c.args.nodes.now) (by_levels c.args.levels c.args.text.now ∙ no_colon (groups_at c.args.levels) c.args.text.now (sym c.in_default.ensures))

pub add_nodes-returns-in-Some-group_named : goal.add_nodes-returns-in-Some-group_named
add_nodes-returns-in-Some-group_named t c =
    rw (
      by_levels c.args.levels c.args.text.now,
      group_there (groups_at c.args.levels) c.args.text.now c.in-Some.place c.in-Some-group_named.group (sym c.in-Some.ensures) (sym c.in-Some-group_named.ensures),
    ) (rw (all_behind c.args.text.now (c.in-Some.place + 1)) at c.add_group.ensures)

pub add_nodes-returns-in-None : goal.add_nodes-returns-in-None
add_nodes-returns-in-None t c =
    rw (
      by_levels c.args.levels c.args.text.now,
      leaf_there (groups_at c.args.levels) c.args.text.now c.in-Some.place (sym c.in-Some.ensures) (sym c.in-None.ensures),
    ) (rw (all_behind c.args.text.now (c.in-Some.place + 1)) at c.add_leaf.ensures)
