mod Split
