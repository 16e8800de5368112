-- The causes of a status, by the texts that were said last.
use Rattle.std.proofs.Common.{◌≡◌, ℕ, Bool, true, false, zero, suc, List, [], ◌∷◌, Result, Ok, Err, inl, inr, take, ap, subst, refl, sym, ◌∙◌, eqb}
use Rattle.std.proofs.lemmas.Bool.{false≢true, ne_eqb}
use Rattle.std.specs.Prelude.{⊤, ◌⊎◌}
use Rattle.pf_base.proofs.KnownLemmas.{wrote_none}
use Rattle.pf_base.specs.Outside.Counts.{counted}
use Rattle.pf_base.specs.Outside.Objects.{Objects, Says, Sinks, StopsBy, sink_status, status_of}
use Rattle.pf_base.specs.Outside.Statuses.{Counts, HasCauses, NoneRose, counted_if, counts_of, is_among, without_fault}
use Rattle.pf_base.specs.Outside.Known.{Output, Tree, HoldsPrefix, wrote}
use Rattle.pf_base.specs.declared.outside.status.TheConstants.{DONE, FILES_FAILED, INPUT_FAILED, NO_MEMORY, REFUSED, USAGE, WARNED}
use Rattle.pf_base.specs.declared.outside.texts.SinkFault.{SinkFault}
use Rattle.pf_base.specs.declared.outside.texts.SinkFault.TheVariants as fault
use Rattle.pf_base.specs.declared.outside.texts.Texts.{Texts}

pub counts_same : {a b : Counts} → a.input ≡ b.input → a.out ≡ b.out → a.mail ≡ b.mail → a.log ≡ b.log → a.files ≡ b.files → a ≡ b
counts_same input out mail log files = rw (input, out, mail, log, files)

-- the statuses of texts that were said whole
abbrev pub spoken : List ℕ
spoken = DONE ∷ WARNED ∷ USAGE ∷ REFUSED ∷ FILES_FAILED ∷ NO_MEMORY ∷ []

-- a count is what it was, or went up by one
abbrev pub Once : ℕ → ℕ → Type 0
Once before now = (now ≡ before) ⊎ (now ≡ counted before)

-- what a status says of the files
pub record FilesCause (before now : Tree) (status : ℕ) : Type 0 where
  pub once : Once before.faults now.faults
  pub failed : status ≡ FILES_FAILED → now.faults ≡ counted before.faults
  pub kept : is_among without_fault status ≡ true → now.faults ≡ before.faults

-- it was out of memory, and no call on a stream failed
pub starved_causes : (before now : Counts) → now.input ≡ before.input → now.out ≡ before.out → now.mail ≡ before.mail → now.log ≡ before.log
    → Once before.files now.files → HasCauses before now 9
starved_causes before now input out mail log files =
    record { input = input; out = out; mail = mail; log = log; once = files; files = λ is. cc; kept = λ is. cc }

-- a sink's fault was counted
pub stops_causes : (before now : Objects) (why : SinkFault) (texts : Texts) → StopsBy why before.streams.sinks now.streams.sinks texts
    → now.streams.input.faults ≡ before.streams.input.faults → Once before.files.faults now.files.faults
    → HasCauses (counts_of before) (counts_of now) (sink_status why)
stops_causes before now fault.Out texts stops input files = record {
  input = input;
  out = ap (λ o. o.faults) stops.1.out.2;
  mail = ap (λ s. s.mail.faults) stops.1.rest;
  log = ap (λ s. s.log.faults) stops.1.rest;
  once = files;
  files = λ is. cc;
  kept = λ is. cc;
}
stops_causes before now fault.Mail texts stops input files = record {
  input = input;
  out = ap (λ s. s.out.faults) stops.1.rest;
  mail = ap (λ o. o.faults) stops.1.mail.2;
  log = ap (λ s. s.log.faults) stops.1.rest;
  once = files;
  files = λ is. cc;
  kept = λ is. cc;
}
stops_causes before now fault.Log texts stops input files = record {
  input = input;
  out = ap (λ s. s.out.faults) stops.1.rest;
  mail = ap (λ s. s.mail.faults) stops.1.rest;
  log = ap (λ o. o.faults) stops.1.log.2;
  once = files;
  files = λ is. cc;
  kept = λ is. cc;
}
stops_causes before now fault.NoMemory texts (inl stops) input files =
    starved_causes (counts_of before) (counts_of now) input (ap (λ s. s.out.faults) stops.rest) (ap (λ o. o.faults) stops.mail.2)
    (ap (λ s. s.log.faults) stops.rest) files
stops_causes before now fault.NoMemory texts (inr (inl stops)) input files =
    starved_causes (counts_of before) (counts_of now) input (ap (λ s. s.out.faults) stops.rest) (ap (λ s. s.mail.faults) stops.rest)
    (ap (λ o. o.faults) stops.log.2) files
stops_causes before now fault.NoMemory texts (inr (inr stops)) input files =
    starved_causes (counts_of before) (counts_of now) input (ap (λ o. o.faults) stops.out.2) (ap (λ s. s.mail.faults) stops.rest)
    (ap (λ s. s.log.faults) stops.rest) files

-- a status among these is none that is not
other_status : (statuses : List ℕ) (n status : ℕ) → is_among statuses n ≡ false → is_among statuses status ≡ true → eqb status n ≡ false
other_status statuses n status out own = ne_eqb status n (λ e. false≢true (sym out ∙ ap (is_among statuses) (sym e) ∙ own))

same_if : {now before : ℕ} {came : Bool} → now ≡ before → came ≡ false → now ≡ counted_if came before
same_if {before = before} same none = same ∙ ap (λ t. counted_if t before) (sym none)

-- no call failed
pub kept_causes : (before now : Counts) (status : ℕ) → now ≡ before → is_among without_fault status ≡ true → HasCauses before now status
kept_causes before now status same own = record {
  input = same_if (ap (λ c. c.input) same) (other_status without_fault 4 status refl own);
  out = same_if (ap (λ c. c.out) same) (other_status without_fault 5 status refl own);
  mail = same_if (ap (λ c. c.mail) same) (other_status without_fault 6 status refl own);
  log = same_if (ap (λ c. c.log) same) (other_status without_fault 7 status refl own);
  once = inl (ap (λ c. c.files) same);
  files = λ is. cc (subst (λ s. is_among without_fault s ≡ true) is own);
  kept = λ is. ap (λ c. c.files) same;
}

-- the causes of a run that says its last texts
pub said_causes : (before now : Objects) (status : ℕ) (said : Result ⊤ SinkFault) (texts : Texts) → now.streams.input ≡ before.streams.input
    → Says before.streams.sinks now.streams.sinks texts said → is_among spoken status ≡ true
    → FilesCause before.files now.files status → HasCauses (counts_of before) (counts_of now) (status_of status said)
said_causes before now status (Ok x) texts same says own files = record {
  input = same_if (ap (λ i. i.faults) same) (other_status spoken 4 status refl own);
  out = same_if (ap (λ s. s.out.faults) says) (other_status spoken 5 status refl own);
  mail = same_if (ap (λ s. s.mail.faults) says) (other_status spoken 6 status refl own);
  log = same_if (ap (λ s. s.log.faults) says) (other_status spoken 7 status refl own);
  once = files.once;
  files = files.failed;
  kept = files.kept;
}
said_causes before now status (Err why) texts same says own files = stops_causes before now why texts says (ap (λ i. i.faults) same) files.once

-- where no count rose, a fault broke nothing off but for lack of memory
pub none_stopped : {before now : Counts} {status : ℕ} (why : SinkFault) → status ≡ sink_status why → HasCauses before now status → NoneRose before now → status ≡ NO_MEMORY
none_stopped {before} fault.Out is causes none = absurd (none.out (causes.out ∙ ap (λ s. counted_if (eqb s 5) before.out) is))
none_stopped {before} fault.Mail is causes none = absurd (none.mail (causes.mail ∙ ap (λ s. counted_if (eqb s 6) before.mail) is))
none_stopped {before} fault.Log is causes none = absurd (none.log (causes.log ∙ ap (λ s. counted_if (eqb s 7) before.log) is))
none_stopped fault.NoMemory is causes none = is

-- and no read failed
pub none_failed : {before now : Counts} {status : ℕ} → status ≡ INPUT_FAILED → HasCauses before now status → NoneRose before now → ⊥
none_failed {before} is causes none = none.input (causes.input ∙ ap (λ s. counted_if (eqb s 4) before.input) is)

-- no text is for the record of messages, so nothing is done with it
take_nothing : (n : ℕ) → ◌≡◌ {A = List ℕ} (take n []) []
take_nothing zero = refl
take_nothing (suc n) = refl

prefix_same : (old new : Output) (text : List ℕ) → text ≡ [] → HoldsPrefix old new text → new ≡ old
prefix_same old new text none prefix = rw none at prefix.2 ∙ ap (wrote old) (take_nothing prefix.0) ∙ wrote_none old

wrote_same : (old : Output) (text : List ℕ) → text ≡ [] → wrote old text ≡ old
wrote_same old text none = ap (wrote old) none ∙ wrote_none old

pub stops_record : (old new : Sinks) (texts : Texts) (why : SinkFault) → texts.mail ≡ [] → StopsBy why old new texts → new.mail ≡ old.mail
stops_record old new texts fault.Mail none stops = absurd (stops.0 none)
stops_record old new texts fault.Log none stops = ap (λ s. s.mail) stops.1.rest ∙ wrote_same old.mail texts.mail none
stops_record old new texts fault.Out none stops = ap (λ s. s.mail) stops.1.rest ∙ wrote_same old.mail texts.mail none
stops_record old new texts fault.NoMemory none (inl stops) = prefix_same old.mail new.mail texts.mail none stops.mail
stops_record old new texts fault.NoMemory none (inr (inl stops)) = ap (λ s. s.mail) stops.rest ∙ wrote_same old.mail texts.mail none
stops_record old new texts fault.NoMemory none (inr (inr stops)) = ap (λ s. s.mail) stops.rest ∙ wrote_same old.mail texts.mail none

pub said_record : (old new : Sinks) (texts : Texts) (said : Result ⊤ SinkFault) → texts.mail ≡ [] → Says old new texts said → new.mail ≡ old.mail
said_record old new texts (Ok x) none says = ap (λ s. s.mail) says ∙ wrote_same old.mail texts.mail none
said_record old new texts (Err why) none says = stops_record old new texts why none says
