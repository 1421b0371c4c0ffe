-- An answer of etcd: its bytes, and what they say.
use Rattle.std.specs.Prelude.{◌≡◌, ℕ, List, [], ⊤, true, Option, Some, Ok, codes, option_and_then}
use Rattle.std.specs.Io.KnownBytes.{Consumes}
use Rattle.base64.specs.Engines.{standard}
use Rattle.base64.specs.GeneralPurpose.{decode_of}
use Rattle.httparse.specs.Grammar.{Field, ReadsResponse, ResponseHead, status_code}
use Rattle.http1.specs.Body.{ReadsBody, body_of}
use Rattle.http1.specs.Framing.{response_framing}
use Rattle.http1.specs.Message.{known_of}
use Rattle.http1.specs.declared.conn.Limits.{Limits}
use Rattle.http1.specs.declared.framing.Framing.{Framing}
use Rattle.http1.specs.declared.framing.MethodKind.TheVariants.{Other}
use Rattle.serde_json.specs.Data.{Data}
use Rattle.serde_json.specs.Find.{as_bool, as_str, get, pointer}
use Rattle.serde_json.specs.Read.{read}
use Rattle.shared_log.specs.declared.etcd.meanings.Said.{Said}
use Rattle.shared_log.specs.declared.etcd.meanings.Said.TheVariants.{Done, Holds, Nothing}

-- ---- its bytes

-- what extensions and trailers an answer may have
abbrev pub limits : Limits
limits = record { max_head_len = 16384; max_extensions_len = 1024; max_trailers_len = 1024 }

-- these bytes are the body of an answer whose head gave this framing
pub record IsBody (framing : Framing) (bytes body : List ℕ) : Type 0 where
  pub trailers : List Field
  pub reads : ReadsBody limits framing bytes (body_of body trailers) []

-- these bytes are one whole answer of status 200, with this body
pub record IsAnswer (bytes body : List ℕ) : Type 0 where
  pub head : ResponseHead
  pub framing : Framing
  pub after : List ℕ
  pub reads : ReadsResponse bytes head after
  pub status : status_code head ≡ 200
  pub framed : response_framing Other 200 head.minor (known_of head.fields) ≡ Ok framing
  pub is_body : IsBody framing after body

-- ---- what a body says

-- the value at the place, in base64
abbrev pub value_text : Data → Option (List ℕ)
value_text json = option_and_then as_str (pointer (codes "/responses/0/response_range/kvs/0/value") json)

abbrev pub SaysBy : Data → Said → Type 0
SaysBy json Done = option_and_then as_bool (get (codes "succeeded") json) ≡ Some true
SaysBy json (Holds value) = (text : List ℕ) × (value_text json ≡ Some text) × (decode_of standard text ≡ Ok value.items)
SaysBy json Nothing = ⊤

-- it is JSON that says so
pub record Says (body : List ℕ) (said : Said) : Type 0 where
  pub json : Data
  pub reads : read body ≡ Some json
  pub says : SaysBy json said

-- ---- an exchange

-- these bytes were written, and bytes came that are an answer with this body
pub record HasCome (old new : Option (List ℕ)) (body : List ℕ) : Type 0 where
  pub bytes : List ℕ
  pub came : Consumes old new bytes
  pub answer : IsAnswer bytes body
