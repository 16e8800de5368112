-- The statuses of runs and their causes. The statuses are postgate's own.
use Rattle.std.specs.Prelude.{◌≡◌, ◌≢◌, ◌⊎◌, ℕ, ◌==◌, Bool, true, List, [], ◌∷◌, if◌then◌else◌}
use Rattle.std.specs.List.{list_any}
use Rattle.pf_base.specs.Outside.Counts.{counted}
use Rattle.pf_base.specs.Outside.Objects.{Objects}
use Rattle.pf_base.specs.declared.outside.status.TheConstants.{AT_BUDGET, DONE, FILES_FAILED, INPUT_FAILED, LOG_FAILED, MAIL_FAILED, OUT_FAILED, REFUSED, USAGE, WARNED}

-- a status is one of these
abbrev pub is_among : List ℕ → ℕ → Bool
is_among statuses status = list_any (λ s. s == status) statuses

-- the statuses of runs in which no call failed
abbrev pub without_fault : List ℕ
without_fault = DONE ∷ WARNED ∷ USAGE ∷ REFUSED ∷ AT_BUDGET ∷ []

-- how often a call on each object failed
pub record Counts : Type 0 where
  pub input : ℕ
  pub out : ℕ
  pub mail : ℕ
  pub log : ℕ
  pub files : ℕ

abbrev pub counts_of : Objects → Counts
counts_of o = record {
  input = o.streams.input.faults;
  out = o.streams.sinks.out.faults;
  mail = o.streams.sinks.mail.faults;
  log = o.streams.sinks.log.faults;
  files = o.files.faults;
}

-- a count, which went up by one where a fault came
abbrev pub counted_if : Bool → ℕ → ℕ
counted_if came count = if came then counted count else count

-- each count is what it was, but where the status is that of a fault of its object it went up by one. That of the files may have gone up by one
-- before another fault broke off the line that says so
pub record HasCauses (before now : Counts) (status : ℕ) : Type 0 where
  pub input : now.input ≡ counted_if (status == INPUT_FAILED) before.input
  pub out : now.out ≡ counted_if (status == OUT_FAILED) before.out
  pub mail : now.mail ≡ counted_if (status == MAIL_FAILED) before.mail
  pub log : now.log ≡ counted_if (status == LOG_FAILED) before.log
  pub once : (now.files ≡ before.files) ⊎ (now.files ≡ counted before.files)
  pub files : status ≡ FILES_FAILED → now.files ≡ counted before.files
  pub kept : is_among without_fault status ≡ true → now.files ≡ before.files

-- no count rose
pub record NoneRose (before now : Counts) : Type 0 where
  pub input : now.input ≢ counted before.input
  pub out : now.out ≢ counted before.out
  pub mail : now.mail ≢ counted before.mail
  pub log : now.log ≢ counted before.log
  pub files : now.files ≢ counted before.files
