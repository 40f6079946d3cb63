-- what a request is answered, over HTTP/1.1
use Rattle.std.specs.Prelude.{ℕ, Bool, if◌then◌else◌, List, [], ◌++◌, length, codes, decimal}
use Rattle.service_watch.specs.Page.{page_of}
use Rattle.service_watch.specs.declared.numbers.Numbers.{Numbers}
use Rattle.service_watch.specs.declared.request.Asked.{Asked}
use Rattle.service_watch.specs.declared.request.Asked.TheVariants as asked

-- the status and its words: 503 only to who asks whether clients are answered, while they are not
abbrev pub status_text : Asked → Bool → List ℕ
status_text asked.Page ready = codes "200 OK"
status_text asked.Alive ready = codes "200 OK"
status_text asked.Ready ready = if ready then codes "200 OK" else codes "503 Service Unavailable"
status_text asked.Nowhere ready = codes "404 Not Found"
status_text asked.OtherMethod ready = codes "405 Method Not Allowed"
status_text asked.Unreadable ready = codes "400 Bad Request"

-- a text for a reader
abbrev pub word_text : Asked → Bool → List ℕ
word_text asked.Page ready = []
word_text asked.Alive ready = codes "ok\n"
word_text asked.Ready ready = if ready then codes "ready\n" else codes "the log does not answer\n"
word_text asked.Nowhere ready = codes "there are /metrics, /healthz and /readyz\n"
word_text asked.OtherMethod ready = codes "GET is answered\n"
word_text asked.Unreadable ready = codes "no request\n"

-- the page, or that text
abbrev pub body_text : Asked → Numbers → List ℕ
body_text asked.Page n = page_of n
body_text asked.Alive n = word_text asked.Alive n.ready
body_text asked.Ready n = word_text asked.Ready n.ready
body_text asked.Nowhere n = word_text asked.Nowhere n.ready
body_text asked.OtherMethod n = word_text asked.OtherMethod n.ready
body_text asked.Unreadable n = word_text asked.Unreadable n.ready

-- what the body is
abbrev pub form_text : Asked → List ℕ
form_text asked.Page = codes "text/plain; version=0.0.4; charset=utf-8"
form_text asked.Alive = codes "text/plain; charset=utf-8"
form_text asked.Ready = codes "text/plain; charset=utf-8"
form_text asked.Nowhere = codes "text/plain; charset=utf-8"
form_text asked.OtherMethod = codes "text/plain; charset=utf-8"
form_text asked.Unreadable = codes "text/plain; charset=utf-8"

-- which methods there are, to who asked by another
abbrev pub allow_text : Asked → List ℕ
allow_text asked.Page = []
allow_text asked.Alive = []
allow_text asked.Ready = []
allow_text asked.Nowhere = []
allow_text asked.OtherMethod = codes "\r\nAllow: GET"
allow_text asked.Unreadable = []

-- the head of an answer with a body of so many bytes
unfoldable pub head_text : Asked → Bool → ℕ → List ℕ
head_text asked ready len =
    codes "HTTP/1.1 " ++ status_text asked ready ++ codes "\r\nContent-Type: " ++ form_text asked ++ allow_text asked
    ++ codes "\r\nContent-Length: " ++ decimal len ++ codes "\r\nConnection: close\r\n\r\n"

-- what is answered where this is the page
abbrev pub body_of : Asked → Bool → List ℕ → List ℕ
body_of asked.Page ready page = page
body_of asked.Alive ready page = word_text asked.Alive ready
body_of asked.Ready ready page = word_text asked.Ready ready
body_of asked.Nowhere ready page = word_text asked.Nowhere ready
body_of asked.OtherMethod ready page = word_text asked.OtherMethod ready
body_of asked.Unreadable ready page = word_text asked.Unreadable ready

unfoldable pub answer_of : Asked → Bool → List ℕ → List ℕ
answer_of asked ready page = head_text asked ready (length (body_of asked ready page)) ++ body_of asked ready page

unfoldable pub answer_text : Asked → Numbers → List ℕ
answer_text asked n = head_text asked n.ready (length (body_text asked n)) ++ body_text asked n
