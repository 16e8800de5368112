-- Bytes by name (RFC 20).
use Rattle.std.specs.Prelude.{ℕ}

-- `b'\t'`
abbrev pub tab : ℕ
tab = 9

-- `b'\n'`
abbrev pub line_feed : ℕ
line_feed = 10

-- `b'\r'`
abbrev pub carriage_return : ℕ
carriage_return = 13

-- `b' '`
abbrev pub space : ℕ
space = 32

-- `b'!'`
abbrev pub exclamation_mark : ℕ
exclamation_mark = 33

-- `b'"'`
abbrev pub double_quote : ℕ
double_quote = 34

-- `b'#'`
abbrev pub number_sign : ℕ
number_sign = 35

-- `b'$'`
abbrev pub dollar_sign : ℕ
dollar_sign = 36

-- `b'%'`
abbrev pub percent_sign : ℕ
percent_sign = 37

-- `b'('`
abbrev pub left_parenthesis : ℕ
left_parenthesis = 40

-- `b')'`
abbrev pub right_parenthesis : ℕ
right_parenthesis = 41

-- `b'+'`
abbrev pub plus_sign : ℕ
plus_sign = 43

-- `b','`
abbrev pub comma : ℕ
comma = 44

-- `b'-'`
abbrev pub hyphen : ℕ
hyphen = 45

-- `b'.'`
abbrev pub dot : ℕ
dot = 46

-- `b'/'`
abbrev pub slash : ℕ
slash = 47

-- `b'0'`
abbrev pub digit_zero : ℕ
digit_zero = 48

-- `b':'`
abbrev pub colon : ℕ
colon = 58

-- `b'<'`
abbrev pub less_than_sign : ℕ
less_than_sign = 60

-- `b'='`
abbrev pub equals_sign : ℕ
equals_sign = 61

-- `b'>'`
abbrev pub greater_than_sign : ℕ
greater_than_sign = 62

-- `b'?'`
abbrev pub question_mark : ℕ
question_mark = 63

-- `b'@'`
abbrev pub at_sign : ℕ
at_sign = 64

-- `b'['`
abbrev pub left_bracket : ℕ
left_bracket = 91

-- `b'\\'`
abbrev pub backslash : ℕ
backslash = 92

-- `b']'`
abbrev pub right_bracket : ℕ
right_bracket = 93

-- `b'_'`
abbrev pub underscore : ℕ
underscore = 95

-- `b'{'`
abbrev pub left_brace : ℕ
left_brace = 123

-- `b'}'`
abbrev pub right_brace : ℕ
right_brace = 125

-- the control byte after `b'~'`
abbrev pub delete : ℕ
delete = 127
