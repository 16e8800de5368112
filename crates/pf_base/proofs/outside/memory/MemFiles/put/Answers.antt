use Rattle.std.proofs.Common.{sym}
use Rattle.pf_base.proofs.FileListLemmas.{with_file_at, with_file_new}
use Rattle.pf_base.proofs.outside.memory.MemFiles.put.Goals as goal

pub returns-in-Some-clause-ok : goal.returns-in-Some-clause-ok
returns-in-Some-clause-ok c =
    rw (← c.self.view_is) (rw (c.set.ensures, c.in_ok-from_slice.ensures, c.in_ok-from_slice-2.ensures, c.as_bytes.ensures.value, with_file_at _ _ _ _ (sym (rw (← c.self.view_is) at c.in-Some.ensures))))

pub returns-in_ok-push-in-None-clause-ok : goal.returns-in_ok-push-in-None-clause-ok
returns-in_ok-push-in-None-clause-ok c =
    rw (← c.self.view_is) (rw (c.in_ok-push-in-None.ensures.ok, c.in_ok-from_slice.ensures, c.in_ok-from_slice-2.ensures, c.as_bytes.ensures.value, with_file_new c.args.name.now c.args.bytes.now _ (sym (rw (← c.self.view_is) at c.in-None.ensures))))
