use Rattle.std.proofs.Common.{ap, map, ◌∙◌}
use Rattle.pf_tools.proofs.OrderLaws.{put_mapped}
use Rattle.pf_tools.proofs.order.Ordered.put.Goals as goal

pub returns : goal.returns
returns c =
    rw (← c.self.view_is) (ap (map (λ name. name.items)) c.in-Ok.ensures.keys ∙ put_mapped (λ name. name.items) c.self.inside.names.keys c.args.name)
