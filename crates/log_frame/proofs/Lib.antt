mod InFrame
