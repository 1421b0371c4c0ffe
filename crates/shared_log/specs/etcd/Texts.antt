-- What etcd is asked by its JSON gateway: a transaction that compares where a log ends.
use Rattle.std.specs.Prelude.{ℕ, ◌+◌, List, [], ◌∷◌, ◌++◌, length, drop, codes, flat_map}
use Rattle.std.specs.Fmt.{decimal}
use Rattle.base64.specs.Engines.{standard}
use Rattle.base64.specs.GeneralPurpose.{encode_of}

-- keys and values are sent so
abbrev pub in_base64 : List ℕ → List ℕ
in_base64 bytes = encode_of standard bytes

-- a place as 20 digits
abbrev pub place_text : ℕ → List ℕ
place_text place = drop (length (decimal place)) (codes "00000000000000000000") ++ decimal place

-- where the log of this name ends, and the entries that were appended at a place
abbrev pub end_key : List ℕ → List ℕ
end_key name = codes "bank/" ++ name ++ codes "/end"

abbrev pub log_key : List ℕ → ℕ → List ℕ
log_key name place = codes "bank/" ++ name ++ codes "/log/" ++ place_text place

-- if this value is under the key
unfoldable pub compare_text : List ℕ → List ℕ → List ℕ
compare_text key value = codes "{\"compare\":[{\"key\":\"" ++ in_base64 key
    ++ codes "\",\"target\":\"VALUE\",\"result\":\"EQUAL\",\"value\":\"" ++ in_base64 value ++ codes "\"}],\"success\":["

-- this value is put there
unfoldable pub put_text : List ℕ → List ℕ → List ℕ
put_text key value =
    codes "{\"requestPut\":{\"key\":\"" ++ in_base64 key ++ codes "\",\"value\":\"" ++ in_base64 value ++ codes "\"}}"

-- if it isn't, what is under this key is told
unfoldable pub range_text : List ℕ → List ℕ
range_text key = codes "],\"failure\":[{\"requestRange\":{\"key\":\"" ++ in_base64 key ++ codes "\"}}]}"

-- these entries stand at the place from then on, and the end is behind them; where there are none, nothing is put
abbrev pub puts_text : List ℕ → ℕ → List (List ℕ) → List ℕ
puts_text name place [] = []
puts_text name place (e ∷ es) = put_text (log_key name place) (flat_map (λ x. x) (e ∷ es)) ++ codes ","
    ++ put_text (end_key name) (place_text (place + length (e ∷ es)))

-- if the log ends at this place, these entries are put there; else what stands there is told
unfoldable pub transaction_text : List ℕ → ℕ → List (List ℕ) → List ℕ
transaction_text name place entries =
    compare_text (end_key name) (place_text place) ++ puts_text name place entries ++ range_text (log_key name place)

abbrev pub request_text : List ℕ → ℕ → List (List ℕ) → List ℕ
request_text name place entries =
    codes "POST /v3/kv/txn HTTP/1.1\r\nHost: etcd\r\nContent-Type: application/json\r\nContent-Length: "
    ++ decimal (length (transaction_text name place entries)) ++ codes "\r\n\r\n" ++ transaction_text name place entries
