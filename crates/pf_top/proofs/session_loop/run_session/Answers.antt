use Rattle.std.proofs.Common.{ap, inl, refl, ◌∙◌}
use Rattle.pf_base.specs.Outside.Objects.{streams}
use Rattle.pf_top.specs.Opening.{setup_of}
use Rattle.pf_top.proofs.SessionLoopLemmas.{has_session}
use Rattle.pf_top.proofs.session_loop.run_session.Goals as goal

pub returns-in-Ok : goal.returns-in-Ok
returns-in-Ok g c =
    let says = rw c.new-session.ensures at (c.in-Ok.ensures.says (g.M.Sink.known c.args.mail.now) (g.J.Sink.known c.args.log.now)) in
    let begins = c.in-Ok.ensures.same ∙ ap (λ s. s.progress) c.new-session.ensures in
    has_session (setup_of c.args.opening c.args.client) c.args.budget _ _ c.serve.result (ap (λ s. streams (g.S.Source.known c.args.input.now) s) says) begins c.serve.ensures

pub returns : goal.returns
returns g c =
    let says = rw c.new-session.ensures at (c.in-Err.ensures.says (g.M.Sink.known c.args.mail.now) (g.J.Sink.known c.args.log.now)) in
    inl (record { stops = says; input = refl })
