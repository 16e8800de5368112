-- Tries of policy services (SMTPD_POLICY_README, protocol description): one is a connection, a request and a reply. What contracts see
-- of them.
use Rattle.std.specs.Prelude.{◌≡◌, ◌≢◌, ◌<◌, ◌⊎◌, ℕ, ◌++◌, Bool, true, false, List, [], ◌∷◌, Option, None, Some, Result, MatchResult, length, take}
use Rattle.pf_base.specs.declared.fault.OuterFault.{OuterFault}
use Rattle.pf_base.specs.declared.fault.OuterFault.TheVariants.{Failed, NoMemory}
use Rattle.pf_asks.specs.declared.links.LinkStep.TheVariants.{Connect, Send, Receive}
use Rattle.pf_asks.specs.declared.links.Outcome.{Outcome}
use Rattle.pf_asks.specs.declared.links.Outcome.TheVariants.{Down, Reply}
use Rattle.pf_asks.specs.declared.links.Request.{Request}

-- the open try: what it gives, and the bytes of its reply that are left
pub record Open : Type 0 where
  pub outcome : Outcome
  pub left : List ℕ

-- what the tries to come give, the service and the bytes sent of each one that was begun, and the open one, which is the last of them
pub record Wire : Type 0 where
  pub outcomes : List Outcome
  pub tries : List Request
  pub opened : Option Open

-- the next outcome and those after it; past the last one every connection is refused
abbrev pub next_outcome : List Outcome → Outcome × List Outcome
next_outcome [] = (Down Connect, [])
next_outcome (outcome ∷ outcomes) = (outcome, outcomes)

abbrev pub is_down : Outcome → Bool
is_down (Down step) = true
is_down (Reply text) = false

abbrev pub reply_bytes : Outcome → List ℕ
reply_bytes (Down step) = []
reply_bytes (Reply text) = text

-- no try is open
abbrev pub hung_up : Wire → Wire
hung_up wire = record wire { opened = None }

-- a try of this service has begun
abbrev pub begun : List ℕ → Wire → Wire
begun service wire = record {
  outcomes = (next_outcome wire.outcomes).1;
  tries = wire.tries ++ (record { service = service; text = [] } ∷ []);
  opened = Some (record { outcome = (next_outcome wire.outcomes).0; left = reply_bytes (next_outcome wire.outcomes).0 });
}

-- the last try, after these, was sent a piece more
abbrev pub with_sent : Wire → List Request → Request → List ℕ → Wire
with_sent wire prefix last piece = record wire { tries = prefix ++ (record last { text = last.text ++ piece } ∷ []) }

-- of the open try's reply these bytes are left
abbrev pub with_left : Wire → Open → List ℕ → Wire
with_left wire one left = record wire { opened = Some (record one { left = left }) }

-- a connect begins a try and fails exactly where its outcome says so; after lack of memory the try is begun, or none is open
abbrev pub Connects : {T : Type 0} → Option Wire → Option Wire → Result T OuterFault → List ℕ → Type 0
Connects None new result service = new ≡ None
Connects (Some wire) new result service = MatchResult result
    (λ _. (new ≡ Some (begun service wire)) × ((next_outcome wire.outcomes).0 ≢ Down Connect))
    (λ fault. ((fault ≡ Failed) → (new ≡ Some (begun service wire)) × ((next_outcome wire.outcomes).0 ≡ Down Connect))
    × ((fault ≡ NoMemory) → (new ≡ Some (begun service wire)) ⊎ (new ≡ Some (hung_up wire))))

-- a send adds the piece to what the open try was sent; a refused one adds a prefix of it, and fails exactly where the outcome says so.
-- Where no try is open it is refused, and nothing changes.
abbrev pub SendsIn : {T : Type 0} → Option Open → Wire → Option Wire → Result T OuterFault → List ℕ → Type 0
SendsIn None wire new result piece = MatchResult result (λ _. ⊥) (λ _. new ≡ Some wire)
SendsIn (Some one) wire new result piece = (prefix : List Request) (last : Request) → wire.tries ≡ prefix ++ (last ∷ [])
    → MatchResult result
    (λ _. (new ≡ Some (with_sent wire prefix last piece)) × (one.outcome ≢ Down Send))
    (λ fault. (n : ℕ) × (new ≡ Some (with_sent wire prefix last (take n piece))) × ((fault ≡ Failed) → one.outcome ≡ Down Send))

abbrev pub Sends : {T : Type 0} → Option Wire → Option Wire → Result T OuterFault → List ℕ → Type 0
Sends None new result piece = new ≡ None
Sends (Some wire) new result piece = SendsIn wire.opened wire new result piece

-- a receive takes the bytes that it puts into the buffer, none at the end alone, and fails exactly where the outcome says so. Where no
-- try is open it fails, and nothing changes.
abbrev pub ReceivesIn : {E : Type 0} → Option Open → Wire → Option Wire → Result ℕ E → List ℕ → Type 0
ReceivesIn None wire new result buf = MatchResult result (λ _. ⊥) (λ _. new ≡ Some wire)
ReceivesIn (Some one) wire new result buf = MatchResult result
    (λ n. (left : List ℕ) × (new ≡ Some (with_left wire one left)) × (one.left ≡ take n buf ++ left) × (n ≡ 0 → 0 < length buf → one.left ≡ [])
    × (one.outcome ≢ Down Receive))
    (λ _. (new ≡ Some wire) × (one.outcome ≡ Down Receive))

abbrev pub Receives : {E : Type 0} → Option Wire → Option Wire → Result ℕ E → List ℕ → Type 0
Receives None new result buf = new ≡ None
Receives (Some wire) new result buf = ReceivesIn wire.opened wire new result buf
