use Rattle.std.proofs.Common.{◌∙◌, sym, ap, ◌++◌, [], ◌∷◌, append-nil}
use Rattle.pf_listfile.proofs.PlaceLaws.{net_more}
use Rattle.pf_listfile.proofs.places.nets_of.Goals as goal
use Rattle.pf_listfile.proofs.places.nets_of.Goals.{then-is_net+in_ok-push, else-is_net}

pub loop-place-preserved : goal.loop-place-preserved
loop-place-preserved c =
    let more = net_more c.args.items.now c.loop-place.place c.index-items-place.result c.loop-place-test.true c.index-items-place.is in
    elim c.if-is_net.branch [
      | then-is_net+in_ok-push w ↦
          w.nets-is ∙ w.in_ok-push.ensures.ok ∙ ap (λ nets. nets ++ c.loop-place.place ∷ []) c.loop-place.invariant ∙ sym (rw (← w.if-is_net.ensures) at more)
      | else-is_net w ↦
          w.nets-is ∙ c.loop-place.invariant ∙ sym (append-nil _) ∙ sym (rw (← w.if-is_net.ensures) at more)
    ]
